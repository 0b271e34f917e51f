-- The tickets before the first one that is open: no contract outside speaks of them.
use Rattle.std.specs.Prelude.{◌≡◌, ◌≤◌, ℕ, Bool, true, not, List, length, take}
use Rattle.std.specs.List.{list_all}
use Rattle.mat_model.specs.declared.book.Ticket.{Ticket}
use Rattle.mat_model.specs.Tickets.{is_open}

-- whether a ticket is answered
abbrev pub is_shut : Ticket → Bool
is_shut ticket = not (is_open ticket)

-- no ticket before a place is open
abbrev pub IsDone : ℕ → List Ticket → Type 0
IsDone place tickets = (place ≤ length tickets) × (list_all is_shut (take place tickets) ≡ true)
