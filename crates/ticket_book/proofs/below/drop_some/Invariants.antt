use Rattle.std.proofs.Common.{◌≡◌, ℕ, List, if◌then◌else◌}
use Rattle.ticket_book.specs.Below.{is_start, numbers_at}
use Rattle.ticket_book.specs.ByPath.{numbers_less}
use Rattle.ticket_book.proofs.below.drop_some.Given as goal

-- the number is gone at the prefixes passed so far
abbrev pub invariant-loop-k : goal.invariant-loop-k
invariant-loop-k l =
    (at : List (List ℕ)) → numbers_at at l.below ≡ (if is_start l.k l.names at then numbers_less l.number (numbers_at at l.fn.below) else numbers_at at l.fn.below)
