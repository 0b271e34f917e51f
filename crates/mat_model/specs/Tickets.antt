-- Tickets and holds, and what they become where rows are removed or a job ends.
use Rattle.std.specs.Prelude.{ℕ, ◌==◌, ◌&&◌, Bool, not, if◌then◌else◌, List, [], ◌∷◌, ◌++◌, map, Some}
use Rattle.std.specs.List.{list_any}
use Rattle.std.specs.Option.{is_none}
use Rattle.mat_path.specs.Names.{same_names}
use Rattle.mat_model.specs.declared.answers.Answer.{Answer}
use Rattle.mat_model.specs.declared.answers.Answer.TheVariants as answer
use Rattle.mat_model.specs.declared.book.Book.{Book}
use Rattle.mat_model.specs.declared.book.Hold.{Hold}
use Rattle.mat_model.specs.declared.book.Row.{Row}
use Rattle.mat_model.specs.declared.book.Ticket.{Ticket}
use Rattle.mat_model.specs.Rows.{covers, used}

-- whether a hold is this command's on this path
abbrev pub is_hold : ℕ → List (List ℕ) → Hold → Bool
is_hold command path hold = (hold.command == command) && same_names hold.path path

-- the holds with this command's on this path, once
abbrev pub with_hold : ℕ → List (List ℕ) → List Hold → List Hold
with_hold command path holds =
    if list_any (is_hold command path) holds then holds
    else holds ++ record { command = command; path = path } ∷ []

-- whether a ticket has no answer yet
abbrev pub is_open : Ticket → Bool
is_open ticket = is_none ticket.answered

-- a ticket with an answer that was given at an entry
abbrev pub with_answer : ℕ → Answer → Ticket → Ticket
with_answer number given ticket = record ticket { answered = Some (record { at = number; answer = given }) }

-- whether a ticket is open on one of the removed rows, and no row that is left covers what it asks for
abbrev pub is_lost : List Row → List Row → Ticket → Bool
is_lost removed left ticket = is_open ticket && list_any (covers ticket.asked) removed && not (list_any (covers ticket.asked) left)

-- a ticket after some rows were removed: it is answered so if it is lost
abbrev pub left_ticket : ℕ → List Row → List Row → Ticket → Ticket
left_ticket number removed left ticket =
    if is_lost removed left ticket then with_answer number answer.Undeclared ticket else ticket

-- the book without some rows, where these are left
abbrev pub without_rows : ℕ → List Row → List Row → Book → Book
without_rows number removed left book =
    record book { rows = left; tickets = map (left_ticket number removed left) book.tickets }

-- whether a ticket is open on a row
abbrev pub waits_for : Row → Ticket → Bool
waits_for row ticket = is_open ticket && covers ticket.asked row

-- a ticket with an answer, if it is open on the row
abbrev pub answered_by : Row → ℕ → Answer → Ticket → Ticket
answered_by row number given ticket = if waits_for row ticket then with_answer number given ticket else ticket

-- whether a ticket is open on one of some rows
abbrev pub waits_for_any : List Row → Ticket → Bool
waits_for_any rows ticket = is_open ticket && list_any (covers ticket.asked) rows

-- a ticket with an answer, if it is open on one of the rows
abbrev pub answered_by_any : List Row → ℕ → Answer → Ticket → Ticket
answered_by_any rows number given ticket = if waits_for_any rows ticket then with_answer number given ticket else ticket

-- the row at the path is used, and held
abbrev pub used_by : ℕ → List (List ℕ) → Book → Book
used_by command path book = record book { rows = used path book.now book.rows; holds = with_hold command path book.holds }
