use Rattle.std.proofs.Common.{◌≡◌, map, take}
use Rattle.ticket_book.specs.Asked.{answered_if}
use Rattle.ticket_book.specs.ByPath.{is_among}
use Rattle.ticket_book.specs.Index.{IsIndex}
use Rattle.ticket_book.proofs.lists.answer_numbered.Given as goal

-- the tickets of the numbers passed so far have the answer
abbrev pub invariant-loop-number : goal.invariant-loop-number
invariant-loop-number l =
    (l.tickets ≡ map (answered_if (is_among (take l.number-index l.numbers)) l.at l.answer) l.fn.tickets)
    × IsIndex l.tickets l.index.paths l.index.below l.index.commands
