-- The end of a job on the books: what comes of its task, what that leaves of each table, and the part that comes back.
use Rattle.std.specs.Prelude.{◌≡◌, ◌≤◌, ◌+◌, ◌++◌, ◌==◌, ◌&&◌, [], ◌∷◌, ℕ, Bool, true, false, not, if◌then◌else◌, List, length, map, filter, find, Option, Some, None}
use Rattle.std.specs.List.{list_any}
use Rattle.std.specs.Option.{is_some, option_map_or}
use Rattle.std.specs.Vec.{vec_capacity}
use Rattle.hall_lock.specs.declared.By.{By}
use Rattle.mat_model.specs.declared.answers.Answer.{Answer}
use Rattle.mat_model.specs.declared.answers.Answer.TheVariants as answer
use Rattle.mat_model.specs.declared.answers.Recorded.{Recorded}
use Rattle.mat_model.specs.declared.answers.Recorded.TheVariants as recorded
use Rattle.mat_model.specs.declared.answers.Reply.{Reply}
use Rattle.mat_model.specs.declared.answers.Reply.TheVariants as reply
use Rattle.mat_model.specs.declared.book.Row.{Row}
use Rattle.mat_model.specs.declared.book.Ticket.{Ticket}
use Rattle.mat_model.specs.declared.entries.Entry.{Entry}
use Rattle.mat_model.specs.declared.entries.Event.TheVariants as event
use Rattle.mat_model.specs.declared.entries.Outcome.{Outcome}
use Rattle.mat_model.specs.declared.entries.Outcome.TheVariants as outcome
use Rattle.mat_model.specs.declared.entries.Task.{Task}
use Rattle.mat_model.specs.declared.entries.Task.TheVariants as task
use Rattle.mat_model.specs.Legal.{is_nothing}
use Rattle.mat_model.specs.Work.{is_declared}
use Rattle.mat_model.specs.WorkState.{Debris, is_elsewhere, marked, path_of_task, put_debris}
use Rattle.model_laws.specs.TicketRules.{answered_below, failure_of_make, top_of}
use Rattle.debris_list.specs.Pieces.{overlaps_debris}
use Rattle.row_book.specs.declared.stock.Stock.{Stock}
use Rattle.row_book.specs.Stocks.{marked_stock, rows_of, standing_stock, stock_at}
use Rattle.kept_book.specs.declared.mark.Mark.{Mark}
use Rattle.kept_book.specs.Marks.{is_other, is_reserved, mark_at, put_mark}
use Rattle.job_book.specs.declared.running.LentPart.{LentPart}
use Rattle.job_book.specs.declared.running.Running.{Running}
use Rattle.job_book.specs.Numbers.{is_number}
use Rattle.job_book.specs.Numbers.{is_other as is_other_number}
use Rattle.mat_core.specs.Replacing.{AreRuled}
use Rattle.mat_core.specs.Rooms.{HasReserves}
use Rattle.mat_core.specs.declared.ending.End.{End}
use Rattle.mat_core.specs.declared.ending.End.TheVariants as end
use Rattle.mat_core.specs.declared.parts.Parts.{Parts}

-- ---- a job that ends

-- some parts are those with which a job ran, without the job, whatever their devices are now
pub record WasRunning {D K : Type 0} (number : ℕ) (running : Running) (parts : Parts D K) : Type 0 where
  -- they stood for a point that keeps its rules
  pub before : Parts D K
  pub rules : AreRuled number before
  -- the job was among their jobs, but for what it kept to be stored, and they had reserved what its end needs
  pub whole : Running
  pub found : find (is_number running.card.job) before.jobs ≡ Some whole
  pub same : running ≡ record whole { kept = running.kept }
  pub reserves : HasReserves before
  pub only : parts ≡ record before { jobs = filter (is_other_number running.card.job) before.jobs; disk = parts.disk; keeper = parts.keeper }

-- whether the end of a task counts: that of a make whose row is gone doesn't
abbrev pub is_fresh : Task → List Row → Bool
is_fresh (task.Make path stamp) rows = is_some (find (is_declared path stamp) rows)
is_fresh (task.Wipe path) rows = true

-- whether a task that ended so made a row that is there
abbrev pub is_made : Outcome → Bool
is_made outcome.Made = true
is_made _ = false

abbrev pub makes_row : Task → Outcome → List Row → Bool
makes_row (task.Make path stamp) out rows = is_fresh (task.Make path stamp) rows && is_made out
makes_row (task.Wipe path) out rows = false

-- something was recorded exactly where a row was made that is there
abbrev pub IsRecordedFor : Task → Outcome → List Row → Recorded → Type 0
IsRecordedFor begun out rows how = is_nothing how ≡ not (makes_row begun out rows)

-- the reply to the end of a job, by whether it counts
abbrev pub reply_ended : Bool → Recorded → Reply
reply_ended true how = reply.Fresh how
reply_ended false how = reply.Stale

-- the entry of the end of a job at a moment
abbrev pub done_entry : By → ℕ → ℕ → Outcome → Reply → Entry
done_entry by moment number out said = record { by = by; now = moment; event = event.Done number out; reply = said }

-- ---- what comes of its task

-- what comes of the make of a row that is there: the row stands, or the make failed
abbrev pub end_made : Stock → Option Answer → End
end_made stock None = end.Stands stock.row.stamp stock.row.sum stock.row.last
end_made stock (Some given) = end.Failed given

-- the same where the row at the path has the stamp of the make, else that row is gone
abbrev pub end_of_row : ℕ → Option Answer → Stock → End
end_of_row stamp failure stock = if stock.row.stamp == stamp then end_made stock failure else end.Gone

abbrev pub end_of_make : ℕ → Option Answer → Option Stock → End
end_of_make stamp failure None = end.Gone
end_of_make stamp failure (Some stock) = end_of_row stamp failure stock

-- what comes of a wipe
abbrev pub end_of_wipe : Option Answer → End
end_of_wipe None = end.Wiped
end_of_wipe (Some given) = end.Unwiped given

-- what comes of a task that ended so, beside some stocks
abbrev pub end_of : List Stock → Task → Outcome → End
end_of stocks (task.Make path stamp) out = end_of_make stamp (failure_of_make out) (find (stock_at path) stocks)
end_of stocks (task.Wipe path) out = end_of_wipe (failure_of_make out)

-- whether what comes of a task counts
abbrev pub is_counted : End → Bool
is_counted end.Gone = false
is_counted _ = true

-- ---- what that leaves

-- the stocks, where it comes of a task at a path
abbrev pub rows_ended : List (List ℕ) → End → List Stock → List Stock
rows_ended path (end.Stands stamp sum last) stocks = map (standing_stock path) stocks
rows_ended path (end.Failed given) stocks = map (marked_stock path true) stocks
rows_ended path _ stocks = stocks

-- the tickets, at an entry
abbrev pub tickets_ended : List Row → List (List ℕ) → ℕ → End → List Ticket → List Ticket
tickets_ended rows path number (end.Stands stamp sum last) tickets = map (answered_below path number (answer.Ready stamp sum)) tickets
tickets_ended rows path number (end.Failed given) tickets = map (answered_below path number given) tickets
tickets_ended rows path number (end.Unwiped given) tickets = map (answered_below (top_of rows path) number given) tickets
tickets_ended rows path number _ tickets = tickets

-- the debris
abbrev pub debris_ended : List (List ℕ) → End → List Debris → List Debris
debris_ended path end.Gone debris = put_debris (record { path = path; condemned = false }) debris
debris_ended path end.Wiped debris = filter (is_elsewhere path) debris
debris_ended path (end.Unwiped given) debris = map (marked false path) debris
debris_ended path _ debris = debris

-- the marks once a row was recorded so, and the marks
abbrev pub marks_recorded : List (List ℕ) → ℕ → Recorded → List Mark → List Mark
marks_recorded path last recorded.Kept marks = put_mark (mark_at path last true) marks
marks_recorded path last _ marks = marks

abbrev pub marks_ended : List (List ℕ) → End → Recorded → List Mark → List Mark
marks_ended path (end.Stands stamp sum last) how marks = marks_recorded path last how marks
marks_ended path _ how marks = marks

-- the places that are reserved
abbrev pub places_ended : List (List ℕ) → End → List (List (List ℕ)) → List (List (List ℕ))
places_ended path end.Wiped reserved = reserved
places_ended path (end.Unwiped given) reserved = reserved
places_ended path _ reserved = filter (is_other path) reserved

-- a place is reserved for the mark of a row that is made
abbrev pub HasPlace : List (List ℕ) → End → List (List (List ℕ)) → Type 0
HasPlace path (end.Stands stamp sum last) reserved = is_reserved reserved path ≡ true
HasPlace path _ reserved = Unit {0}

-- no debris overlaps a path whose part becomes debris
abbrev pub MayFall : List (List ℕ) → End → List Debris → Type 0
MayFall path end.Gone debris = list_any (overlaps_debris path) debris ≡ false
MayFall path _ debris = Unit {0}

-- the task of a job has ended at a path, at an entry, and its row was recorded so
pub record IsTaskEnded {D K : Type 0} (number : ℕ) (path : List (List ℕ)) (ending : End) (how : Recorded) (old new : Parts D K) : Type 0 where
  pub only : new ≡ record old { rows = new.rows; tickets = new.tickets; debris = new.debris; kept = new.kept }
  pub rows : new.rows ≡ rows_ended path ending old.rows
  pub tickets : new.tickets.all ≡ tickets_ended (rows_of old.rows) path number ending old.tickets.all
  pub debris : new.debris.list ≡ debris_ended path ending old.debris.list
  pub spare : old.debris.spare ≤ new.debris.spare + 1
  pub marks : new.kept.marks ≡ marks_ended path ending how old.kept.marks
  pub places : new.kept.reserved ≡ places_ended path ending old.kept.reserved

-- ---- the part that it read

-- whether a stock's row has a stamp, and whether the one at exactly a path has it
abbrev pub has_stock_stamp : ℕ → Stock → Bool
has_stock_stamp stamp stock = stock.row.stamp == stamp

abbrev pub has_row_at : List (List ℕ) → ℕ → List Stock → Bool
has_row_at path stamp stocks = option_map_or (has_stock_stamp stamp) (find (stock_at path) stocks) false

-- the debris once the part is back that a job read, if it read one: it is debris where its row is gone
abbrev pub part_back : List Stock → Option LentPart → List Debris → List Debris
part_back stocks None debris = debris
part_back stocks (Some part) debris =
    if has_row_at part.path part.stamp stocks then debris else put_debris (record { path = part.path; condemned = part.cleaned }) debris

-- no debris overlaps that part
abbrev pub IsPartApart : Option LentPart → List Debris → Type 0
IsPartApart None debris = Unit {0}
IsPartApart (Some part) debris = list_any (overlaps_debris part.path) debris ≡ false

-- ---- the entry

-- what the end of a job needs to be entered
pub record MayEnter {D K : Type 0} (running : Running) (out : Outcome) (parts : Parts D K) : Type 0 where
  -- room for its entry, and for the debris of its task's part and of the part that it read
  pub entry : length parts.history.items + 1 ≤ vec_capacity parts.history
  pub room : 2 ≤ parts.debris.spare
  -- nothing overlaps what becomes debris
  pub apart : MayFall (path_of_task running.card.task) (end_of parts.rows running.card.task out) parts.debris.list
  pub part : IsPartApart running.lent (debris_ended (path_of_task running.card.task) (end_of parts.rows running.card.task out) parts.debris.list)
  -- and a place for its row's mark
  pub place : HasPlace (path_of_task running.card.task) (end_of parts.rows running.card.task out) parts.kept.reserved

-- the end of a job is entered, under a number: its task has ended, and then the part is back that it read
pub record IsDoneEntered {D K : Type 0} (number : ℕ) (by : By) (running : Running) (out : Outcome) (how : Recorded) (old new : Parts D K) : Type 0 where
  pub mid : Parts D K
  pub ended : IsTaskEnded number (path_of_task running.card.task) (end_of old.rows running.card.task out) how old mid
  pub only : new ≡ record mid { debris = new.debris; history = new.history }
  pub debris : new.debris.list ≡ part_back mid.rows running.lent mid.debris.list
  pub spare : mid.debris.spare ≤ new.debris.spare + 1
  pub history : new.history.items
      ≡ old.history.items
      ++ done_entry by old.moment running.card.job out (reply_ended (is_counted (end_of old.rows running.card.task out)) how) ∷ []
  pub capacity : vec_capacity new.history ≡ vec_capacity old.history

-- what the end of a job leaves as it was
pub record IsBesideEnd {D K : Type 0} (old new : Parts D K) : Type 0 where
  pub base : new.base ≡ old.base
  pub first : new.first ≡ old.first
  pub moment : new.moment ≡ old.moment
  pub lost : new.lost ≡ old.lost
  pub jobs : new.jobs ≡ old.jobs
  pub disk : new.disk ≡ old.disk
  pub keeper : new.keeper ≡ old.keeper
