-- Tickets by the paths that they ask for, where a book finds them without looking at the trees of rows.
use Rattle.std.specs.Prelude.{◌&&◌, ℕ, Bool, not, if◌then◌else◌, List, map, find, Option, Some, None}
use Rattle.std.specs.List.{list_any}
use Rattle.std.specs.Option.{option_map_or}
use Rattle.mat_path.specs.Names.{is_prefix}
use Rattle.mat_model.specs.declared.answers.Answer.{Answer}
use Rattle.mat_model.specs.declared.answers.Answer.TheVariants as answer
use Rattle.mat_model.specs.declared.book.Book.{Book}
use Rattle.mat_model.specs.declared.book.Row.{Row}
use Rattle.mat_model.specs.declared.book.Ticket.{Ticket}
use Rattle.mat_model.specs.declared.entries.Outcome.{Outcome}
use Rattle.mat_model.specs.declared.entries.Outcome.TheVariants as outcome
use Rattle.mat_model.specs.Openings.{path_of_row}
use Rattle.mat_model.specs.Rows.{covers}
use Rattle.mat_model.specs.Tickets.{is_open, with_answer}

-- whether a ticket is open and asks for a path at or below one
abbrev pub asks_below : List (List ℕ) → Ticket → Bool
asks_below path ticket = is_open ticket && is_prefix path ticket.asked

-- a ticket with an answer, if it is open and asks for a path at or below one
abbrev pub answered_below : List (List ℕ) → ℕ → Answer → Ticket → Ticket
answered_below path number given ticket = if asks_below path ticket then with_answer number given ticket else ticket

-- whether a row is at or above a path
abbrev pub is_row_above : List (List ℕ) → Row → Bool
is_row_above path row = is_prefix row.path path

-- the same where it may be at or below any of some rows
abbrev pub asks_below_any : List Row → Ticket → Bool
asks_below_any rows ticket = is_open ticket && list_any (is_row_above ticket.asked) rows

abbrev pub answered_below_any : List Row → ℕ → Answer → Ticket → Ticket
answered_below_any rows number given ticket = if asks_below_any rows ticket then with_answer number given ticket else ticket

-- the path of the row at or above a path, or the path itself where there is none: each row that overlaps the path is at or below it
abbrev pub top_of : List Row → List (List ℕ) → List (List ℕ)
top_of rows path = option_map_or path_of_row (find (is_row_above path) rows) path

-- a ticket after a row came: answered that nothing is declared, if it is open and asks for a path at or below one that the row doesn't cover
abbrev pub lost_below : List (List ℕ) → Row → ℕ → Ticket → Ticket
lost_below path new number ticket =
    if asks_below path ticket && not (covers ticket.asked new) then with_answer number answer.Undeclared ticket else ticket

-- the failure with which a make ended, as an answer, and that of a wipe, if they failed
abbrev pub failure_of_make : Outcome → Option Answer
failure_of_make outcome.Made = None
failure_of_make outcome.Wiped = None
failure_of_make (outcome.Missing digest) = Some (answer.Missing digest)
failure_of_make (outcome.Corrupt wanted found) = Some (answer.Corrupt wanted found)
failure_of_make (outcome.Fault note) = Some (answer.Fault note)
failure_of_make outcome.NoMemory = Some answer.NoMemory

abbrev pub failure_of_wipe : Outcome → Option Answer
failure_of_wipe outcome.Made = None
failure_of_wipe outcome.Wiped = None
failure_of_wipe (outcome.Missing digest) = None
failure_of_wipe (outcome.Corrupt wanted found) = None
failure_of_wipe (outcome.Fault note) = Some (answer.Fault note)
failure_of_wipe outcome.NoMemory = Some answer.NoMemory

-- a book once the open tickets that ask for a path at or below one are answered
abbrev pub with_answers_below : List (List ℕ) → ℕ → Answer → Book → Book
with_answers_below path number given book = record book { tickets = map (answered_below path number given) book.tickets }
