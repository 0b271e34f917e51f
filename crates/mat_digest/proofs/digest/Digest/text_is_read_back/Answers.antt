use Rattle.std.proofs.Common.{arith}
use Rattle.mat_digest.proofs.Laws.{read_digest-digest_text}
use Rattle.mat_digest.proofs.digest.Digest.text_is_read_back.Goals as goal

pub returns-clause-valid : goal.returns-clause-valid
returns-clause-valid c =
    record { hash_len = c.tell_hash.ensures.len; hash_bytes = c.tell_hash.ensures.bytes; size_fits = omega arith }

pub returns-clause-back : goal.returns-clause-back
returns-clause-back c = read_digest-digest_text c.args.self.now (returns-clause-valid c)
