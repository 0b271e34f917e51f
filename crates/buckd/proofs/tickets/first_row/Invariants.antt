use Rattle.std.proofs.Common.{◌≡◌, drop}
use Rattle.mat_model.specs.WorkState.{first_make}
use Rattle.buckd.specs.Run.{idle}
use Rattle.buckd.proofs.tickets.first_row.Given as goal

-- the task that comes first is that of the tickets that are left
abbrev pub invariant-loop-ticket : goal.invariant-loop-ticket
invariant-loop-ticket l = first_make idle l.rows (drop l.ticket-index l.tickets) ≡ first_make idle l.rows l.tickets
