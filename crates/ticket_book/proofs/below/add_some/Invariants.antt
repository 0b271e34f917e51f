use Rattle.std.proofs.Common.{◌≡◌, ℕ, List, if◌then◌else◌}
use Rattle.ticket_book.specs.Below.{is_start, numbers_at}
use Rattle.ticket_book.specs.ByPath.{numbers_with}
use Rattle.ticket_book.proofs.below.add_some.Given as goal

-- the number stands at the prefixes passed so far
abbrev pub invariant-loop-count : goal.invariant-loop-count
invariant-loop-count l =
    (at : List (List ℕ)) → numbers_at at l.below ≡ (if is_start l.count l.names at then numbers_with l.number (numbers_at at l.fn.below) else numbers_at at l.fn.below)
