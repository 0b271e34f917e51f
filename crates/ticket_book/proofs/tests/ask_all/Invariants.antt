use Rattle.std.proofs.Common.{◌≡◌, ◌+◌, true}
use Rattle.std.specs.List.{list_all}
use Rattle.ticket_book.specs.Asked.{is_earlier}
use Rattle.ticket_book.proofs.tests.ask_all.Given as goal

-- the tickets so far have lower numbers than the next one
abbrev pub invariant-loop-k : goal.invariant-loop-k
invariant-loop-k l = list_all (is_earlier (l.k + 1)) l.book.all ≡ true
