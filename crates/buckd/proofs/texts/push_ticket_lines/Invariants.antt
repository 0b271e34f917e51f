use Rattle.std.proofs.Common.{◌≡◌, ◌++◌, take}
use Rattle.std.specs.List.{flat_map}
use Rattle.buckd.specs.Texts.{ticket_line}
use Rattle.buckd.proofs.texts.push_ticket_lines.Given as goal

abbrev pub invariant-loop-ticket : goal.invariant-loop-ticket
invariant-loop-ticket l = l.out.items ≡ l.initial.out.items ++ flat_map (ticket_line l.number) (take l.ticket-index l.tickets)
