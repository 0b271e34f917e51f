use Rattle.std.proofs.Common.{◌≡◌, ◌++◌, ◌-◌, drop, length}
use Rattle.mat_core.proofs.listing.copy_waiting.Given as goal

abbrev pub invariant-waiting : goal.invariant-waiting
invariant-waiting l = l.copies.items ++ drop (length l.copies.items) l.gate.waiting ≡ l.gate.waiting

abbrev pub decreases-waiting : goal.decreases-waiting
decreases-waiting l = length l.gate.waiting - length l.copies.items
