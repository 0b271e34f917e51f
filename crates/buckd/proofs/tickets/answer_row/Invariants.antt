use Rattle.std.proofs.Common.{◌≡◌, ◌++◌, map, take, drop}
use Rattle.mat_model.specs.Tickets.{answered_by}
use Rattle.buckd.proofs.tickets.answer_row.Given as goal

-- the tickets passed so far are as after the answer, the others as they were
abbrev pub invariant-loop-ticket : goal.invariant-loop-ticket
invariant-loop-ticket l =
    l.tickets ≡ map (answered_by l.row l.number l.answer) (take l.ticket-index l.fn.tickets) ++ drop l.ticket-index l.fn.tickets
