use Rattle.std.proofs.Common.{◌≡◌, ◌++◌}
use Rattle.fetch_port.proofs.mem_store.copy_blobs.Given as goal

abbrev pub invariant-loop-key : goal.invariant-loop-key
invariant-loop-key l = l.copies.entries ++ l.key-iterator ≡ l.fn.blobs.entries
