use Rattle.std.proofs.Common.{◌≡◌, ◌-◌, true, map}
use Rattle.std.specs.List.{list_all}
use Rattle.ticket_book.specs.Asked.{is_earlier}
use Rattle.mat_core.specs.Losing.{lost_before}
use Rattle.mat_core.proofs.losing.answer_lost.Given as goal

-- the tickets before a number were looked at
abbrev pub invariant-tickets : goal.invariant-tickets
invariant-tickets l = record {
  all : l.tickets.all ≡ map (lost_before l.from l.top l.row l.number) l.fn.tickets.all;
  earlier : list_all (is_earlier l.number) l.tickets.all ≡ true;
}

abbrev pub decreases-tickets : goal.decreases-tickets
decreases-tickets l = l.number - l.from
