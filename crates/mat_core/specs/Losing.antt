-- Tickets that lose their row, those of lower numbers first.
use Rattle.std.specs.Prelude.{ℕ, ◌&&◌, Bool, not, if◌then◌else◌, List}
use Rattle.mat_path.specs.Names.{is_prefix}
use Rattle.mat_model.specs.declared.book.Row.{Row}
use Rattle.mat_model.specs.declared.book.Ticket.{Ticket}
use Rattle.mat_model.specs.Rows.{covers}
use Rattle.model_laws.specs.TicketRules.{lost_below}
use Rattle.ticket_book.specs.Asked.{has_number, is_earlier}

-- whether a path is at or below one, and a row doesn't cover it
abbrev pub is_lost_to : List (List ℕ) → Row → List (List ℕ) → Bool
is_lost_to top row asked = is_prefix top asked && not (covers asked row)

-- a ticket that is answered so if its number is below one, and if it is one
abbrev pub lost_before : ℕ → List (List ℕ) → Row → ℕ → Ticket → Ticket
lost_before from top row number ticket = if is_earlier from ticket then lost_below top row number ticket else ticket

abbrev pub lost_at : ℕ → List (List ℕ) → Row → ℕ → Ticket → Ticket
lost_at one top row number ticket = if has_number one ticket then lost_below top row number ticket else ticket
