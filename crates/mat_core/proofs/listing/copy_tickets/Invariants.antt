use Rattle.std.proofs.Common.{◌≡◌, ◌++◌, ◌-◌, drop, length}
use Rattle.mat_core.proofs.listing.copy_tickets.Given as goal

abbrev pub invariant-tickets : goal.invariant-tickets
invariant-tickets l = l.copies.items ++ drop (length l.copies.items) l.tickets.all ≡ l.tickets.all

abbrev pub decreases-tickets : goal.decreases-tickets
decreases-tickets l = length l.tickets.all - length l.copies.items
