-- What the laws of cleaned parts speak of: a row that a clean removed, what is true of its path from then on, and the entries that are work alone.
use Rattle.std.specs.Prelude.{◌≡◌, ℕ, Bool, true, false, List, Option, Some, None}
use Rattle.std.specs.List.{Contains}
use Rattle.mat_path.specs.Names.{overlap}
use Rattle.mat_model.specs.declared.answers.FaultNote.{FaultNote}
use Rattle.mat_model.specs.declared.answers.Reply.{Reply}
use Rattle.mat_model.specs.declared.book.Row.{Row}
use Rattle.mat_model.specs.declared.entries.Entry.{Entry}
use Rattle.mat_model.specs.declared.entries.Event.{Event}
use Rattle.mat_model.specs.declared.entries.Event.TheVariants as event
use Rattle.mat_model.specs.declared.entries.Outcome.{Outcome}
use Rattle.mat_model.specs.declared.entries.Outcome.TheVariants as outcome
use Rattle.mat_model.specs.declared.entries.Task.{Task}
use Rattle.mat_model.specs.declared.entries.Task.TheVariants as task
use Rattle.mat_model.specs.declared.requests.Asked.TheVariants as asked
use Rattle.mat_model.specs.declared.requests.CleanMode.{CleanMode}
use Rattle.mat_model.specs.History.{Point, after, refusal_note}
use Rattle.mat_model.specs.WorkState.{Debris, Job, Lent, WorkState, removed_rows, running}
use Rattle.model_laws.specs.RowRules.{served_at}

-- an entry is a clean that removed a row
pub record IsCleanedAway (point : Point) (entry : Entry) (row : Row) : Type 0 where
  pub cutoff : ℕ
  pub mode : CleanMode
  pub asks : entry.event ≡ event.Asked (asked.Clean cutoff mode)
  pub gone : Contains (removed_rows point.book.rows (after point entry).book.rows) row

-- ---- a path that is leaving

-- debris is at a path, and condemned
pub record IsCondemnedAt (path : List (List ℕ)) (debris : Debris) : Type 0 where
  pub placed : debris.path ≡ path
  pub marked : debris.condemned ≡ true

-- a part that is lent is at a path, and that of a row that a clean removed: where it comes back it is condemned
pub record IsCleanedPart (path : List (List ℕ)) (cleaned : List ℕ) (lent : Lent) : Type 0 where
  pub placed : lent.path ≡ path
  pub marked : Contains cleaned lent.stamp

-- a task makes nothing that overlaps a path
abbrev pub IsMadeAside : List (List ℕ) → Task → Type 0
IsMadeAside path (task.Make place stamp) = overlap place path ≡ false
IsMadeAside path (task.Wipe place) = Unit {0}

-- the part that a job reads, if it reads one and that overlaps a path, is that of a row which a clean removed there
abbrev pub IsPartLeaving : List (List ℕ) → List ℕ → Option Lent → Type 0
IsPartLeaving path cleaned None = Unit {0}
IsPartLeaving path cleaned (Some lent) = overlap lent.path path ≡ true → IsCleanedPart path cleaned lent

-- a path is leaving, beside some rows and in a work state: what is claimed of it is condemned, or will be once a job has read it
pub record IsLeaving (path : List (List ℕ)) (rows : List Row) (work : WorkState) : Type 0 where
  -- no row overlaps it
  pub clear : (row : Row) → Contains rows row → overlap row.path path ≡ false
  -- no make does
  pub making : (job : Job) → Contains work.jobs job → IsMadeAside path job.task
  -- debris that does is at the path, and condemned
  pub debris : (debris : Debris) → Contains work.debris debris → overlap debris.path path ≡ true → IsCondemnedAt path debris
  -- a part that is lent and does is at the path, and that of a row that a clean removed
  pub lending : (job : Job) → Contains work.jobs job → IsPartLeaving path work.cleaned job.lent

-- ---- entries that are work alone

-- whether a begin, which may have been refused with a note, refused no wipe
abbrev pub refused_no_wipe : Task → Option FaultNote → Bool
refused_no_wipe (task.Make path stamp) refusal = true
refused_no_wipe (task.Wipe path) None = true
refused_no_wipe (task.Wipe path) (Some note) = false

-- whether the end of a task is none of a wipe that failed
abbrev pub failed_no_wipe : Task → Outcome → Bool
failed_no_wipe (task.Make path stamp) out = true
failed_no_wipe (task.Wipe path) outcome.Made = false
failed_no_wipe (task.Wipe path) outcome.Wiped = true
failed_no_wipe (task.Wipe path) (outcome.Missing digest) = false
failed_no_wipe (task.Wipe path) (outcome.Corrupt wanted found) = false
failed_no_wipe (task.Wipe path) (outcome.Fault note) = false
failed_no_wipe (task.Wipe path) outcome.NoMemory = false

-- the same of the job that runs, if one does
abbrev pub job_failed_no_wipe : Option Job → Outcome → Bool
job_failed_no_wipe None out = true
job_failed_no_wipe (Some job) out = failed_no_wipe job.task out

-- whether an event with its reply is work alone: the begin or the end of a job, by which no wipe was refused or failed
abbrev pub is_work_only : Point → Event → Reply → Bool
is_work_only point (event.Asked request) said = false
is_work_only point (event.Begin begun) said = refused_no_wipe begun (refusal_note said)
is_work_only point (event.Done number out) said = job_failed_no_wipe (running number point.work) out

abbrev pub IsWorkOnly : Point → Entry → Type 0
IsWorkOnly point entry = is_work_only point entry.event (served_at point entry).reply ≡ true
