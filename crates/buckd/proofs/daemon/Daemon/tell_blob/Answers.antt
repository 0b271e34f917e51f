use Rattle.std.proofs.Common.{ap, ◌++◌, ◌∙◌, refl}
use Rattle.mat_digest.specs.declared.digest.Digest.{Digest}
use Rattle.mat_digest.specs.Digests.{digest_of}
use Rattle.script_lang.specs.declared.told.Said.TheVariants as said
use Rattle.buckd.specs.Texts.{said_line}
use Rattle.mat_tree.proofs.Joins.{on_ok}
use Rattle.buckd.proofs.StoreLemmas.{told-stored}
use Rattle.buckd.proofs.daemon.Daemon.tell_blob.Goals as goal

pub returns-clause-told : goal.returns-clause-told
returns-clause-told c =
    on_ok c.push_said.result
    (λ text. told-stored (digest_of c.args.bytes.items) c.args.bytes.items c.args.self.now (record c.args.self.now { store = c.put.new.self })
    c.args.out.now.items c.push_said.new.out.items c.in_ok-digest.ensures.put c.put.ensures.calls refl refl
    (text ∙ ap (λ (digest : Digest). c.args.out.now.items ++ said_line (said.Stored digest)) c.in_ok-digest.ensures.ok))
    c.push_said.ensures.ok
