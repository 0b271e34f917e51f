-- What the laws of whole runs speak of: the end of a make, a clean that removes, and a command that took the place of others.
use Rattle.std.specs.Prelude.{◌≡◌, ◌⊎◌, ◌<◌, ◌≤◌, ℕ, Bool, true, false, List, [], ◌∷◌, ◌++◌, length, map, filter, Some}
use Rattle.std.specs.List.{Contains, list_any}
use Rattle.mat_model.specs.declared.answers.Reply.TheVariants as reply
use Rattle.mat_model.specs.declared.book.Book.{Book}
use Rattle.mat_model.specs.declared.book.Hold.{Hold}
use Rattle.mat_model.specs.declared.book.Row.{Row}
use Rattle.mat_model.specs.declared.entries.Entry.{Entry}
use Rattle.mat_model.specs.declared.entries.Event.{Event}
use Rattle.mat_model.specs.declared.entries.Event.TheVariants as event
use Rattle.mat_model.specs.declared.entries.Outcome.{Outcome}
use Rattle.mat_model.specs.declared.entries.Task.TheVariants as task
use Rattle.mat_model.specs.declared.requests.Asked.TheVariants as asked
use Rattle.mat_model.specs.Cleaning.{gone_row, is_held, is_not_stale, stale}
use Rattle.mat_model.specs.Gate.{Served, is_command}
use Rattle.mat_model.specs.History.{Point, after_all, next_number}
use Rattle.mat_model.specs.WorkState.{Job, running}
use Rattle.model_laws.specs.RowRules.{served_at}

-- an entry ends, at a point, the make of a path under a stamp
pub record EndsMake (point : Point) (entry : Entry) (path : List (List ℕ)) (stamp : ℕ) : Type 0 where
  pub number : ℕ
  pub out : Outcome
  pub job : Job
  pub ends : entry.event ≡ event.Done number out
  pub runs : running number point.work ≡ Some job
  pub task : job.task ≡ task.Make path stamp

-- a row that a clean spares: it lies, it is held, or it was used at the cutoff or later
abbrev pub IsSpared : ℕ → List Hold → Row → Type 0
IsSpared cutoff holds row = (row.stands ≡ false) ⊎ (is_held holds row ≡ true) ⊎ (cutoff ≤ row.last)

-- a clean removed exactly the rows of a book that it doesn't spare, and lists them in path order
pub record IsCleaned (cutoff : ℕ) (before : Book) (served : Served) : Type 0 where
  -- each row that it spares stays as it was
  pub spared : (row : Row) → Contains before.rows row → IsSpared cutoff before.holds row → Contains served.book.rows row
  -- each other row is gone
  pub gone : (row : Row) → Contains before.rows row → row.stands ≡ true → is_held before.holds row ≡ false → row.last < cutoff →
      Contains served.book.rows row → ⊥
  -- no row comes
  pub old : (row : Row) → Contains served.book.rows row → Contains before.rows row
  -- they stay in order
  pub rows : served.book.rows ≡ filter (is_not_stale cutoff before.holds) before.rows
  -- it is told what is gone, and what else was condemned
  pub strays : List (List (List ℕ))
  pub told : served.reply ≡ reply.Cleaned false (map gone_row (stale cutoff before)) strays

-- what was served for an event took the place of all that were live, of which one is this, for a command
pub record TookPlace (point : Point) (what : Event) (served : Served) (command asker : ℕ) : Type 0 where
  pub state : ℕ
  pub soft : Bool
  pub refuse : Bool
  pub asks : what ≡ event.Asked (asked.Enter command state soft refuse)
  pub live : list_any (is_command asker) point.book.live ≡ true
  pub told : served.reply ≡ reply.Took (length point.book.live)
  pub alone : served.book.live ≡ command ∷ []

-- one of some entries, under a history number, took the place of a command that was live, for another one
pub record WasPreempted (point : Point) (later : List Entry) (number command asker : ℕ) : Type 0 where
  pub before : List Entry
  pub entry : Entry
  pub behind : List Entry
  pub split : later ≡ before ++ entry ∷ behind
  pub at : number ≡ next_number (after_all point before)
  pub took : TookPlace (after_all point before) entry.event (served_at (after_all point before) entry) command asker
