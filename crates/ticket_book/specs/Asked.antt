-- The tickets of a book, as its contracts see them beside the definitions of the model.
use Rattle.std.specs.Prelude.{◌≡◌, ◌+◌, ℕ, nat_le, nat_lt, ◌==◌, ◌&&◌, Bool, not, true, if◌then◌else◌, List, [], ◌∷◌, ◌++◌, length, map, Option, count_by}
use Rattle.std.specs.List.{filter, find}
use Rattle.std.specs.Option.{option_map}
use Rattle.mat_path.specs.Names.{is_prefix, overlap}
use Rattle.mat_model.specs.declared.answers.Answer.{Answer}
use Rattle.mat_model.specs.declared.book.Ticket.{Ticket}
use Rattle.mat_model.specs.Books.{are_ascending, number_of}
use Rattle.mat_model.specs.Tickets.{is_open, with_answer}

-- all tickets in order of number, and the numbers of those that are answered, in the order in which they were
pub record Tickets : Type 0 where
  pub all : List Ticket
  pub answered : List ℕ

-- whether a ticket asks for a path at or below one, or for one that overlaps it
abbrev pub asks_below : List (List ℕ) → Ticket → Bool
asks_below path ticket = is_prefix path ticket.asked

abbrev pub asks_over : List (List ℕ) → Ticket → Bool
asks_over path ticket = overlap ticket.asked path

-- whether a ticket is a command's
abbrev pub asks_for : ℕ → Ticket → Bool
asks_for command ticket = ticket.command == command

-- whether a ticket has a number, a lower one, or one that isn't lower
abbrev pub has_number : ℕ → Ticket → Bool
has_number number ticket = ticket.number == number

abbrev pub is_earlier : ℕ → Ticket → Bool
is_earlier number ticket = nat_lt ticket.number number

abbrev pub is_from : ℕ → Ticket → Bool
is_from number ticket = nat_le number ticket.number

-- whether a ticket asks for a path at or below one, and its number isn't below another
abbrev pub asks_below_from : List (List ℕ) → ℕ → Ticket → Bool
asks_below_from path from ticket = is_from from ticket && asks_below path ticket

-- whether a ticket is open and passes a test
abbrev pub is_due : (Ticket → Bool) → Ticket → Bool
is_due test ticket = is_open ticket && test ticket

-- the lowest number of an open ticket that passes a test
abbrev pub lowest : (Ticket → Bool) → List Ticket → Option ℕ
lowest test tickets = option_map number_of (find (is_due test) tickets)

-- a ticket with an answer, if it is open and passes a test
abbrev pub answered_if : (Ticket → Bool) → ℕ → Answer → Ticket → Ticket
answered_if test at given ticket = if is_due test ticket then with_answer at given ticket else ticket

-- the tickets once those that are open and pass a test are answered, at an entry
abbrev pub answer_all : (Ticket → Bool) → ℕ → Answer → Tickets → Tickets
answer_all test at given tickets = record {
  all = map (answered_if test at given) tickets.all;
  answered = tickets.answered ++ map number_of (filter (is_due test) tickets.all);
}

-- the tickets with a new one
abbrev pub with_ticket : Ticket → Tickets → Tickets
with_ticket ticket tickets = record { all = tickets.all ++ ticket ∷ []; answered = tickets.answered }

-- the ticket of a number
abbrev pub ticket_at : List Ticket → ℕ → Option Ticket
ticket_at tickets number = find (has_number number) tickets

-- whether a ticket is answered, and has a number
abbrev pub was_answered : ℕ → Ticket → Bool
was_answered number ticket = not (is_open ticket) && has_number number ticket

abbrev pub is_same : ℕ → ℕ → Bool
is_same number other = other == number

-- what is true of a book's tickets at all times
pub record AreTickets (tickets : Tickets) : Type 0 where
  -- they stand in strict order of number
  pub ascending : are_ascending (map number_of tickets.all) ≡ true
  -- as many were answered as aren't open any more
  pub counted : length tickets.answered + count_by is_open tickets.all ≡ length tickets.all
  -- a number is listed as often as there is an answered ticket of it: once, or never
  pub listed : (number : ℕ) → count_by (is_same number) tickets.answered ≡ count_by (was_answered number) tickets.all
