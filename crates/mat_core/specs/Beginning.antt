-- A begin, step by step: room is made, its parts are taken, its job is put down, kept rows go, and it is entered; or what was done is undone.
use Rattle.std.specs.Prelude.{◌≡◌, ◌≤◌, ◌+◌, ◌*◌, ◌++◌, [], ◌∷◌, ℕ, Bool, false, List, length, map, filter, find, count_by}
use Rattle.std.specs.Option.{is_none}
use Rattle.std.specs.Vec.{vec_capacity}
use Rattle.hall_lock.specs.declared.By.{By}
use Rattle.mat_model.specs.declared.answers.Reply.{Reply}
use Rattle.mat_model.specs.declared.answers.Reply.TheVariants as reply
use Rattle.mat_model.specs.declared.entries.Entry.{Entry}
use Rattle.mat_model.specs.declared.entries.Event.TheVariants as event
use Rattle.mat_model.specs.declared.entries.Task.{Task}
use Rattle.mat_model.specs.declared.entries.Task.TheVariants as task
use Rattle.mat_model.specs.declared.answers.Answer.TheVariants as answer
use Rattle.mat_model.specs.declared.answers.FaultNote.{FaultNote}
use Rattle.mat_model.specs.declared.book.Row.{Row}
use Rattle.mat_model.specs.WorkState.{Debris, is_not_below, marked}
use Rattle.model_laws.specs.TicketRules.{answered_below, top_of}
use Rattle.row_book.specs.declared.stock.Stock.{Stock}
use Rattle.row_book.specs.Stocks.{marked_stock, rows_of, stock_at}
use Rattle.kept_book.specs.Marks.{is_mark_unlisted, is_other, put_path}
use Rattle.mat_core.specs.Rooms.{spent_in}
use Rattle.mat_core.specs.declared.parts.Parts.{Parts}

-- some parts have the books that others had, whatever their jobs and devices are, and what they have reserved
pub record HaveSameBooks {D K : Type 0} (old new : Parts D K) : Type 0 where
  pub base : new.base ≡ old.base
  pub first : new.first ≡ old.first
  pub moment : new.moment ≡ old.moment
  pub gate : new.gate ≡ old.gate
  pub rows : new.rows ≡ old.rows
  pub holds : new.holds ≡ old.holds
  pub tickets : new.tickets ≡ old.tickets
  pub debris : new.debris.list ≡ old.debris.list
  pub kept : new.kept.marks ≡ old.kept.marks
  pub nodes : new.nodes ≡ old.nodes
  pub paths : new.paths ≡ old.paths
  pub lost : new.lost ≡ old.lost
  pub history : new.history.items ≡ old.history.items

-- and no less room than they had
pub record HaveNoLessRoom {D K : Type 0} (old new : Parts D K) : Type 0 where
  pub history : vec_capacity old.history ≤ vec_capacity new.history
  pub debris : old.debris.spare ≤ new.debris.spare

-- the places that are reserved with that of a task's kept row, if it is a make, and without it
abbrev pub with_place : Task → List (List (List ℕ)) → List (List (List ℕ))
with_place (task.Make path stamp) reserved = put_path path reserved
with_place (task.Wipe path) reserved = reserved

abbrev pub without_place : Task → List (List (List ℕ)) → List (List (List ℕ))
without_place (task.Make path stamp) reserved = filter (is_other path) reserved
without_place (task.Wipe path) reserved = reserved

-- some parts have room for a job with a task: for its begin and its end, for the debris of its parts, and a place for its kept row
pub record HaveRoomFor {D K : Type 0} (begun : Task) (old new : Parts D K) : Type 0 where
  pub same : HaveSameBooks old new
  pub more : HaveNoLessRoom old new
  pub jobs : new.jobs ≡ old.jobs
  pub disk : new.disk ≡ old.disk
  pub keeper : new.keeper ≡ old.keeper
  pub history : spent_in old + 2 ≤ vec_capacity new.history
  pub debris : 2 * length old.jobs + 2 ≤ new.debris.spare
  pub places : new.kept.reserved ≡ with_place begun old.kept.reserved

-- some parts are as they were but for more room
pub record HaveOnlyRoom {D K : Type 0} (old new : Parts D K) : Type 0 where
  pub same : HaveSameBooks old new
  pub more : HaveNoLessRoom old new
  pub jobs : new.jobs ≡ old.jobs
  pub disk : new.disk ≡ old.disk
  pub keeper : new.keeper ≡ old.keeper
  pub places : new.kept.reserved ≡ old.kept.reserved

-- ---- an entry

-- the entry of a begin at a moment
abbrev pub begin_entry : By → ℕ → Task → Reply → Entry
begin_entry by moment begun said = record { by = by; now = moment; event = event.Begin begun; reply = said }

-- the rows once a make has begun: its row is no longer marked as one whose last make failed
abbrev pub unmarked : Task → List Stock → List Stock
unmarked (task.Make path stamp) stocks = map (marked_stock path false) stocks
unmarked (task.Wipe path) stocks = stocks

-- the debris once a make has begun, which absorbs what is at and below its path
abbrev pub absorbed : Task → List Debris → List Debris
absorbed (task.Make path stamp) debris = filter (is_not_below path) debris
absorbed (task.Wipe path) debris = debris

-- whether a path has no row
abbrev pub has_no_row : List Stock → List (List ℕ) → Bool
has_no_row stocks path = is_none (find (stock_at path) stocks)

-- a begin is entered, where the kept rows at some paths are gone
pub record IsBegunEntered {D K : Type 0} (by : By) (begun : Task) (gone : List (List (List ℕ))) (old new : Parts D K) : Type 0 where
  pub base : new.base ≡ old.base
  pub first : new.first ≡ old.first
  pub moment : new.moment ≡ old.moment
  pub gate : new.gate ≡ old.gate
  pub rows : new.rows ≡ unmarked begun old.rows
  pub holds : new.holds ≡ old.holds
  pub tickets : new.tickets ≡ old.tickets
  pub debris : new.debris.list ≡ absorbed begun old.debris.list
  pub spare : old.debris.spare ≤ new.debris.spare
  pub jobs : new.jobs ≡ old.jobs
  pub kept : new.kept.marks ≡ filter (is_mark_unlisted gone) old.kept.marks
  pub places : new.kept.reserved ≡ old.kept.reserved
  pub nodes : new.nodes ≡ old.nodes
  pub paths : new.paths + count_by (has_no_row old.rows) gone ≡ old.paths
  pub lost : new.lost ≡ old.lost
  pub history : new.history.items ≡ old.history.items ++ begin_entry by old.moment begun reply.Started ∷ []
  pub capacity : vec_capacity new.history ≡ vec_capacity old.history
  pub disk : new.disk ≡ old.disk
  pub keeper : new.keeper ≡ old.keeper

-- the debris once the begin of a wipe was refused: its path is no longer condemned
abbrev pub uncondemned : Task → List Debris → List Debris
uncondemned (task.Make path stamp) debris = debris
uncondemned (task.Wipe path) debris = map (marked false path) debris

-- the path at and below which open tickets are answered, where a task fails
abbrev pub top_of_task : List Row → Task → List (List ℕ)
top_of_task rows (task.Make path stamp) = path
top_of_task rows (task.Wipe path) = top_of rows path

-- a begin that was refused is entered, under a number
pub record IsRefusedEntered {D K : Type 0} (number : ℕ) (by : By) (begun : Task) (note : FaultNote) (old new : Parts D K) : Type 0 where
  pub base : new.base ≡ old.base
  pub first : new.first ≡ old.first
  pub moment : new.moment ≡ old.moment
  pub gate : new.gate ≡ old.gate
  pub rows : new.rows ≡ old.rows
  pub holds : new.holds ≡ old.holds
  pub tickets : new.tickets.all ≡ map (answered_below (top_of_task (rows_of old.rows) begun) number (answer.Fault note)) old.tickets.all
  pub debris : new.debris.list ≡ uncondemned begun old.debris.list
  pub spare : new.debris.spare ≡ old.debris.spare
  pub jobs : new.jobs ≡ old.jobs
  pub kept : new.kept ≡ old.kept
  pub nodes : new.nodes ≡ old.nodes
  pub paths : new.paths ≡ old.paths
  pub lost : new.lost ≡ old.lost
  pub history : new.history.items ≡ old.history.items ++ begin_entry by old.moment begun (reply.Refused note) ∷ []
  pub capacity : vec_capacity new.history ≡ vec_capacity old.history
  pub disk : new.disk ≡ old.disk
  pub keeper : new.keeper ≡ old.keeper
