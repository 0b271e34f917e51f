-- What the laws of kept rows speak of: their order, the entry that recorded one, and the entries that leave it alone.
use Rattle.std.specs.Prelude.{◌≡◌, ◌≢◌, ◌⊎◌, ℕ, Bool, true, false, List, ◌∷◌, ◌++◌, Some}
use Rattle.std.specs.List.{Contains, list_any}
use Rattle.mat_path.specs.Names.{overlap, same_names}
use Rattle.mat_tree.specs.Trees.{ascends_by}
use Rattle.mat_model.specs.declared.answers.Gone.{Gone}
use Rattle.mat_model.specs.declared.answers.Recorded.TheVariants as recorded
use Rattle.mat_model.specs.declared.answers.Reply.TheVariants as reply
use Rattle.mat_model.specs.declared.book.Row.{Row}
use Rattle.mat_model.specs.declared.entries.Entry.{Entry}
use Rattle.mat_model.specs.declared.entries.Event.{Event}
use Rattle.mat_model.specs.declared.entries.Event.TheVariants as event
use Rattle.mat_model.specs.declared.entries.Outcome.{Outcome}
use Rattle.mat_model.specs.declared.entries.Task.{Task}
use Rattle.mat_model.specs.declared.entries.Task.TheVariants as task
use Rattle.mat_model.specs.declared.opening.Opening.{Opening}
use Rattle.mat_model.specs.declared.requests.Asked.TheVariants as asked
use Rattle.mat_model.specs.Gate.{Served}
use Rattle.mat_model.specs.History.{Point, after, after_all, opened}
use Rattle.mat_model.specs.Kept.{KeptRow, is_due, kept_row}
use Rattle.mat_model.specs.Legal.{IsEach}
use Rattle.mat_model.specs.Openings.{kept_at_opening}
use Rattle.mat_model.specs.WorkState.{Job, path_of_task, running}
use Rattle.model_laws.specs.RowRules.{served_at}

-- the path of a kept row
abbrev pub path_of_kept : KeptRow → List (List ℕ)
path_of_kept kept = kept.path

-- kept rows ascend strictly by path
abbrev pub KeptAscend : List KeptRow → Type 0
KeptAscend kept = ascends_by path_of_kept kept ≡ true

-- whether a row that a clean lists is at a path
abbrev pub is_gone_at : List (List ℕ) → Gone → Bool
is_gone_at path one = same_names one.path path

-- the end of a job recorded a row: it was the make of exactly its path and its stamp
pub record IsMakeRecord (point : Point) (what : Event) (served : Served) (row : Row) : Type 0 where
  pub number : ℕ
  pub out : Outcome
  pub job : Job
  pub ends : what ≡ event.Done number out
  pub runs : running number point.work ≡ Some job
  pub task : job.task ≡ task.Make row.path row.stamp
  pub told : served.reply ≡ reply.Fresh recorded.Kept

-- a flush recorded a row, which stands
pub record IsFlushRecord (what : Event) (served : Served) (row : Row) : Type 0 where
  pub due : ℕ
  pub asks : what ≡ event.Asked asked.Flush
  pub told : served.reply ≡ reply.Flushed due
  pub stands : row.stands ≡ true

-- what was served for an event recorded a kept row: it is a row of the book, with its path, its tree and its last use
pub record IsRecordedBy (point : Point) (what : Event) (served : Served) (kept : KeptRow) : Type 0 where
  pub row : Row
  pub among : Contains served.book.rows row
  pub same : kept_row row ≡ kept
  pub how : IsMakeRecord point what served row ⊎ IsFlushRecord what served row

-- what was served for an event leaves the kept row at a path alone
pub record IsLeftAlone (point : Point) (what : Event) (served : Served) (path : List (List ℕ)) : Type 0 where
  -- it didn't remove the rows that overlap a path which overlaps this one
  pub valid : (command count : ℕ) (at : List (List ℕ)) → what ≡ event.Asked (asked.Invalidate command at) → served.reply ≡ reply.Invalid count →
      overlap path at ≡ false
  -- it didn't clean a row at this path away
  pub spared : (gone : List Gone) (strays : List (List (List ℕ))) → served.reply ≡ reply.Cleaned false gone strays →
      list_any (is_gone_at path) gone ≡ false
  -- it didn't begin a job at a path that overlaps this one
  pub free : (begun : Task) → what ≡ event.Begin begun → served.reply ≡ reply.Started → overlap path (path_of_task begun) ≡ false
  -- it didn't record a row at this path
  pub flushed : (row : Row) (due : ℕ) → served.reply ≡ reply.Flushed due → Contains served.book.rows row → is_due point.kept row ≡ true →
      row.path ≢ path
  pub made : (number stamp : ℕ) (out : Outcome) (job : Job) → what ≡ event.Done number out → running number point.work ≡ Some job →
      job.task ≡ task.Make path stamp → served.reply ≢ reply.Fresh recorded.Kept

-- an entry leaves the kept row at a path alone
abbrev pub LeavesAlone : List (List ℕ) → Point → Entry → Type 0
LeavesAlone path point entry = IsLeftAlone point entry.event (served_at point entry) path

-- a row was kept before some entries, and they leave it alone
abbrev pub StaysKept : Point → List Entry → KeptRow → Type 0
StaysKept point later kept = Contains point.kept kept × IsEach (LeavesAlone kept.path) point later

-- one of some entries recorded a row, and those behind it leave it alone
pub record WasRecorded (point : Point) (later : List Entry) (kept : KeptRow) : Type 0 where
  pub before : List Entry
  pub entry : Entry
  pub behind : List Entry
  pub split : later ≡ before ++ entry ∷ behind
  pub by : IsRecordedBy (after_all point before) entry.event (served_at (after_all point before) entry) kept
  pub since : IsEach (LeavesAlone kept.path) (after (after_all point before) entry) behind

-- a row of an opening is kept, and some entries leave it alone
pub record WasOpened (opening : Opening) (later : List Entry) (kept : KeptRow) : Type 0 where
  pub row : Row
  pub among : Contains opening.rows row
  pub same : kept_at_opening opening row ≡ kept
  pub since : IsEach (LeavesAlone kept.path) (opened opening) later
