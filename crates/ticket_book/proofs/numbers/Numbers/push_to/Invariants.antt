use Rattle.std.proofs.Common.{◌≡◌, ◌+◌, ◌≤◌, ◌++◌, length}
use Rattle.std.specs.Vec.{vec_capacity}
use Rattle.ticket_book.proofs.numbers.Numbers.push_to.Given as goal

-- what is there, and what is still to come, is all
abbrev pub invariant-loop-number : goal.invariant-loop-number
invariant-loop-number l =
    (l.numbers.items ++ l.number-iterator ≡ l.fn.numbers.items ++ l.fn.self)
    × (length l.numbers.items + length l.number-iterator ≤ vec_capacity l.numbers)
    × (vec_capacity l.numbers ≡ vec_capacity l.fn.numbers)
