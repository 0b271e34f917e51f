-- How a ticket is found by its number: no contract outside speaks of it.
use Rattle.std.specs.Prelude.{ℕ, Bool, not, if◌then◌else◌, List, [], ◌∷◌, Option, Some, None}
use Rattle.mat_model.specs.declared.book.Ticket.{Ticket}
use Rattle.ticket_book.specs.Asked.{has_number, is_earlier}

-- whether the number of a ticket isn't below one
abbrev pub is_past : ℕ → Ticket → Bool
is_past number ticket = not (is_earlier number ticket)

-- the first ticket, if it has a number
abbrev pub first_if : ℕ → List Ticket → Option Ticket
first_if number [] = None
first_if number (ticket ∷ tickets) = if has_number number ticket then Some ticket else None
