use Rattle.std.proofs.Common.{length, ◌-◌}
use Rattle.ticket_book.specs.Done.{IsDone}
use Rattle.ticket_book.proofs.lists.first_open.Given as goal

abbrev pub invariant-loop-place : goal.invariant-loop-place
invariant-loop-place l = IsDone l.place l.tickets

abbrev pub decreases-loop-place : goal.decreases-loop-place
decreases-loop-place l = length l.tickets - l.place
