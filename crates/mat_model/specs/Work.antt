-- What the begin and the end of a job do to the book.
use Rattle.std.specs.Prelude.{ℕ, ◌==◌, ◌&&◌, Bool, List, [], ◌∷◌, map, filter, find, Option, Some, None}
use Rattle.mat_model.specs.declared.book.Book.{Book}
use Rattle.mat_model.specs.declared.book.Row.{Row}
use Rattle.mat_model.specs.declared.answers.Answer.{Answer}
use Rattle.mat_model.specs.declared.answers.Answer.TheVariants as answer
use Rattle.mat_model.specs.declared.answers.FaultNote.{FaultNote}
use Rattle.mat_model.specs.declared.answers.Recorded.{Recorded}
use Rattle.mat_model.specs.declared.answers.Recorded.TheVariants as recorded
use Rattle.mat_model.specs.declared.answers.Reply.TheVariants as reply
use Rattle.mat_model.specs.declared.entries.Outcome.{Outcome}
use Rattle.mat_model.specs.declared.entries.Outcome.TheVariants as outcome
use Rattle.mat_model.specs.declared.entries.Task.{Task}
use Rattle.mat_model.specs.declared.entries.Task.TheVariants as task
use Rattle.mat_model.specs.Gate.{Served}
use Rattle.mat_model.specs.Rows.{is_at_path, overlaps_row, standing_row}
use Rattle.mat_model.specs.Tickets.{answered_by, answered_by_any}

-- whether a row was declared at a path under a stamp
abbrev pub is_declared : List (List ℕ) → ℕ → Row → Bool
is_declared path stamp row = is_at_path path row && (row.stamp == stamp)

-- the book with an answer to the tickets that are open on one of some rows
abbrev pub with_answers : List Row → ℕ → Answer → Book → Book
with_answers rows number given book = record book { tickets = map (answered_by_any rows number given) book.tickets }

-- the rows that a task is for: that of a make, and those that overlap a wipe
abbrev pub rows_of_task : Task → List Row → List Row
rows_of_task (task.Make path stamp) rows = filter (is_at_path path) rows
rows_of_task (task.Wipe path) rows = filter (overlaps_row path) rows

-- a job could not begin, since the state store failed
abbrev pub refuse : ℕ → Task → FaultNote → Book → Served
refuse number begun note book = record {
  reply = reply.Refused note;
  book = with_answers (rows_of_task begun book.rows) number (answer.Fault note) book;
}

-- the make of a row at a path ended: it made the row, or its failure is the answer
abbrev pub make_ended : ℕ → List (List ℕ) → Row → Outcome → Book → Book
make_ended number path row outcome.Made book = record book {
  rows = map (standing_row path) book.rows;
  tickets = map (answered_by row number (answer.Ready row.stamp row.sum)) book.tickets;
}
make_ended number path row outcome.Wiped book = book
make_ended number path row (outcome.Missing digest) book = with_answers (row ∷ []) number (answer.Missing digest) book
make_ended number path row (outcome.Corrupt wanted found) book = with_answers (row ∷ []) number (answer.Corrupt wanted found) book
make_ended number path row (outcome.Fault note) book = with_answers (row ∷ []) number (answer.Fault note) book
make_ended number path row outcome.NoMemory book = with_answers (row ∷ []) number answer.NoMemory book

-- the make of the row at a path ended, where the row that it was for, if it is still there, is given, and whether it was recorded
abbrev pub end_make : ℕ → List (List ℕ) → Outcome → Recorded → Book → Option Row → Served
end_make number path out how book None = record { reply = reply.Stale; book = book }
end_make number path out how book (Some row) =
    record { reply = reply.Fresh how; book = make_ended number path row out book }

-- the wipe of a path ended: its failure is the answer for the rows that overlap it
abbrev pub wipe_ended : ℕ → List (List ℕ) → Outcome → Book → Book
wipe_ended number path outcome.Made book = book
wipe_ended number path outcome.Wiped book = book
wipe_ended number path (outcome.Missing digest) book = book
wipe_ended number path (outcome.Corrupt wanted found) book = book
wipe_ended number path (outcome.Fault note) book = with_answers (filter (overlaps_row path) book.rows) number (answer.Fault note) book
wipe_ended number path outcome.NoMemory book = with_answers (filter (overlaps_row path) book.rows) number answer.NoMemory book

-- a job ended with an outcome, under a history number, and its row was recorded so
abbrev pub finish : ℕ → Task → Outcome → Recorded → Book → Served
finish number (task.Make path stamp) out how book =
    end_make number path out how book (find (is_declared path stamp) book.rows)
finish number (task.Wipe path) out how book =
    record { reply = reply.Fresh recorded.Nothing; book = wipe_ended number path out book }
