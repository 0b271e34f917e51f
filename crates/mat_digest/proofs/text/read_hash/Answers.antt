use Rattle.std.proofs.Common.{sym, arith}
use Rattle.mat_digest.proofs.Hashes.{hash_decodes, hash_end_len}
use Rattle.mat_digest.proofs.text.read_hash.Goals as goal

pub slice_bounds-from_hex-end : goal.slice_bounds-from_hex-end
slice_bounds-from_hex-end c = sym (hash_end_len c.args.text.now (omega arith))

pub unwrap-requires : goal.unwrap-requires
unwrap-requires c = rw c.from_hex.ensures (hash_decodes c.args.text.now (omega arith))
