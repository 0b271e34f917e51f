use Rattle.std.proofs.Common.{◌≡◌, ◌++◌, ◌-◌, drop, length}
use Rattle.mat_core.proofs.listing.copy_holds.Given as goal

abbrev pub invariant-holds : goal.invariant-holds
invariant-holds l = l.copies.items ++ drop (length l.copies.items) l.holds ≡ l.holds

abbrev pub decreases-holds : goal.decreases-holds
decreases-holds l = length l.holds - length l.copies.items
