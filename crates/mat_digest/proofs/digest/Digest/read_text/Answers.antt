use Rattle.std.proofs.Common.{ap, ◌∙◌}
use Rattle.mat_digest.specs.Digests.{read_digest}
use Rattle.mat_digest.proofs.Laws.{digest_text-read_digest, read_digest-digest_text}
use Rattle.mat_digest.proofs.digest.Digest.read_text.Goals as goal

pub returns-clause-ok : goal.returns-clause-ok
returns-clause-ok c = rw c.read_digest.ensures (digest_text-read_digest c.args.text.now)

pub returns-clause-whole : goal.returns-clause-whole
returns-clause-whole c =
    λ d valid same. c.read_digest.ensures ∙ ap read_digest same ∙ read_digest-digest_text d valid
