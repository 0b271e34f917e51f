-- What a begin did, by what it answered.
use Rattle.std.specs.Prelude.{◌≡◌, ◌≤◌, ◌++◌, ◌∷◌, [], ◌+◌, nat_lt, ℕ, true, false, List, filter, find, map, Option, Some, None}
use Rattle.std.specs.List.{Contains, list_any}
use Rattle.std.specs.Option.{is_some, option_map}
use Rattle.hall_lock.specs.declared.By.{By}
use Rattle.mat_model.specs.declared.answers.FaultNote.{FaultNote}
use Rattle.mat_model.specs.declared.answers.Reply.{Reply}
use Rattle.mat_model.specs.declared.answers.Reply.TheVariants as reply
use Rattle.mat_model.specs.declared.book.Row.{Row}
use Rattle.mat_model.specs.declared.entries.Task.{Task}
use Rattle.mat_model.specs.declared.entries.Task.TheVariants as task
use Rattle.mat_model.specs.History.{Point, after, next_number}
use Rattle.mat_model.specs.Kept.{overlaps_kept}
use Rattle.mat_model.specs.Work.{is_declared}
use Rattle.mat_model.specs.Room.{spent}
use Rattle.mat_model.specs.WorkState.{Lent, first_task, path_of_task, way_of}
use Rattle.model_laws.specs.KeptRules.{path_of_kept}
use Rattle.region_port.specs.States.{loan_tree}
use Rattle.region_port.specs.declared.port.Region.{Ghosts as RegionGhosts}
use Rattle.region_port.specs.declared.states.ReadLoan.{ReadLoan}
use Rattle.keep_port.specs.Rows.{remove_all}
use Rattle.write_plan.specs.declared.method.Method.{Method}
use Rattle.job_run.specs.Asking.{asks_of}
use Rattle.job_run.specs.Courses.{make_course, wipe_course}
use Rattle.job_run.specs.Views.{Seen, asks_left, is_over, job_card, job_course, job_fetching, job_goal, job_loan, job_region}
use Rattle.core_devices.specs.Events.{HasAgain, read_at}
use Rattle.core_devices.specs.Removals.{IsStoreCall, IsStoreNote, are_some}
use Rattle.core_devices.specs.Takes.{AreTaken}
use Rattle.core_devices.specs.Told.{ToldDisk, ToldStore, told_part}
use Rattle.mat_core.specs.Calls.{MayWant}
use Rattle.mat_core.specs.Beginning.{begin_entry}
use Rattle.mat_core.specs.Books.{StandFor, is_same_stamp, way_in}
use Rattle.mat_core.specs.Cores.{point_in}
use Rattle.mat_core.specs.Cores.{Seen as Core}
use Rattle.mat_core.specs.Orders.{AreReady, card_for, gone_for}
use Rattle.mat_core.specs.PutDown.{told_read}
use Rattle.mat_core.specs.Rooms.{HasReserves, spent_in}
use Rattle.mat_core.specs.Served.{StandsStill}
use Rattle.mat_core.specs.declared.begins.Begun.{Begun}
use Rattle.mat_core.specs.declared.begins.Begun.TheVariants as begun
use Rattle.mat_core.specs.declared.parts.Parts.{Parts}

-- ---- the job

-- a part that is only read is lent for the tree of a row, if one is read
abbrev pub IsLentFor : {R : Type 0} → Option Lent → Option (ReadLoan R) → Type 0
IsLentFor None None = Unit {0}
IsLentFor None (Some read) = ⊥
IsLentFor (Some lent) None = ⊥
IsLentFor (Some lent) (Some read) = loan_tree read ≡ lent.tree

-- a job makes the tree of the row that was declared at a path under a stamp, by that row's way
pub record MakesRow {R : Type 0} (point : Point) (path : List (List ℕ)) (stamp : ℕ) (job : Seen R) : Type 0 where
  pub row : Row
  pub found : find (is_declared path stamp) point.book.rows ≡ Some row
  pub goal : job_goal job ≡ Some row.tree
  pub way : Method
  pub its : way_in way ≡ way_of stamp point.work.ways
  pub asks : asks_left job ≡ asks_of way row.tree
  pub course : job_course job ≡ make_course row.tree way (is_some (job_loan job))

-- a job leaves nothing
pub record LeavesNothing {R : Type 0} (job : Seen R) : Type 0 where
  pub goal : job_goal job ≡ None
  pub asks : asks_left job ≡ 0
  pub course : job_course job ≡ wipe_course

-- what a job of a task is to do
abbrev pub DoesTask : {R : Type 0} → Point → Task → Seen R → Type 0
DoesTask point (task.Make path stamp) job = MakesRow point path stamp job
DoesTask point (task.Wipe path) job = LeavesNothing job

-- a job has just begun with a task at a point: it has its part, and the one that it reads, as a disk had them
pub record HasJustBegun {R : Type 0} (g : RegionGhosts R) (point : Point) (begun : Task) (old new : ToldDisk) (job : Seen R) : Type 0 where
  pub card : job_card job ≡ card_for (next_number point) begun
  pub going : is_over job ≡ false
  pub fetching : job_fetching job ≡ None
  pub region : R
  pub has : job_region job ≡ Some region
  pub taken : AreTaken (path_of_task begun) (option_map (λ (lent : Lent). lent.path) (read_at point begun)) old new (told_part g region)
      (option_map (told_read g) (job_loan job))
  pub loan : IsLentFor (read_at point begun) (job_loan job)
  pub does : DoesTask point begun job

-- ---- the parts

-- what no begin changes
pub record IsSameCore {D K : Type 0} (old new : Parts D K) : Type 0 where
  pub base : new.base ≡ old.base
  pub lost : new.lost ≡ old.lost

-- a begin is entered with a reply, and the parts stand for the point behind it
pub record IsEntered {D K : Type 0} (point : Point) (by : By) (begun : Task) (said : Reply) (old new : Parts D K) : Type 0 where
  pub same : IsSameCore old new
  pub first : first_task point.work point.book ≡ Some begun
  pub room : nat_lt old.base.limits.history (spent_in old + 2) ≡ false
  pub moment : new.moment ≡ point.book.now
  pub history : new.history.items ≡ old.history.items ++ begin_entry by point.book.now begun said ∷ []
  pub stands : StandFor new (after point (begin_entry by point.book.now begun said))
  pub reserves : HasReserves new
  pub ready : AreReady old → AreReady new

-- nothing is entered, and the parts stand for their point still
pub record IsStill {D K : Type 0} (old new : Parts D K) : Type 0 where
  pub same : IsSameCore old new
  pub history : new.history.items ≡ old.history.items
  pub stands : StandsStill old new
  pub reserves : HasReserves new
  pub ready : AreReady old → AreReady new

-- the state store has what it had, and its count hasn't fallen
pub record IsKeptStill (old new : ToldStore) : Type 0 where
  pub rows : new.rows ≡ old.rows
  pub faults : old.faults ≤ new.faults

-- a job began: its parts are out, and the kept rows that overlap its path are gone
pub record HasStarted {D K R : Type 0} (g : RegionGhosts R) (point : Point) (by : By) (old new : Parts D K) (disk now_disk : ToldDisk)
    (store now_store : ToldStore) (job : Seen R) : Type 0 where
  pub what : Task
  pub entered : IsEntered point by what reply.Started old new
  pub begun : HasJustBegun g point what disk now_disk job
  pub rows : now_store.rows ≡ option_map (λ rows. remove_all rows (gone_for old what)) store.rows
  pub faults : store.faults ≤ now_store.faults
  pub called : IsStoreCall (are_some (gone_for old what)) false false store now_store

-- it was refused, since the state store failed to remove kept rows that overlap its path
pub record WasRefused {D K : Type 0} (point : Point) (by : By) (old new : Parts D K) (disk now_disk : ToldDisk) (store now_store : ToldStore)
    (noted : FaultNote) : Type 0 where
  pub what : Task
  pub entered : IsEntered point by what (reply.Refused noted) old new
  pub some : list_any (overlaps_kept (path_of_task what)) point.kept ≡ true
  pub again : HasAgain disk now_disk
  pub still : IsKeptStill store now_store
  pub note : IsStoreNote store.faults now_store.faults (Some noted)
  pub called : IsStoreCall true true false store now_store

-- it was given up for want of memory
pub record WasGivenUp {D K : Type 0} (old new : Parts D K) (disk now_disk : ToldDisk) (store now_store : ToldStore) : Type 0 where
  pub still : IsStill old new
  pub again : HasAgain disk now_disk
  pub kept : IsKeptStill store now_store
  pub called : MayWant store now_store

-- what a begin did, by what it answered
abbrev pub BeginsSo : {D K R : Type 0} → RegionGhosts R → Point → By → Parts D K → Parts D K → ToldDisk → ToldDisk → ToldStore → ToldStore →
    Begun R → Type 0
BeginsSo g point by old new disk now_disk store now_store (begun.Started job) = HasStarted g point by old new disk now_disk store now_store job
BeginsSo g point by old new disk now_disk store now_store begun.Idle = (first_task point.work point.book ≡ None) × (new ≡ old)
BeginsSo g point by old new disk now_disk store now_store (begun.Refused note) = WasRefused point by old new disk now_disk store now_store note
BeginsSo g point by old new disk now_disk store now_store begun.Full =
    (is_some (first_task point.work point.book) ≡ true) × (nat_lt old.base.limits.history (spent_in old + 2) ≡ true) × (new ≡ old)
BeginsSo g point by old new disk now_disk store now_store begun.NoMemory = WasGivenUp old new disk now_disk store now_store

-- ---- what contracts see of it

-- the paths of the kept rows of a point that overlap that of a task
abbrev pub gone_at : Point → Task → List (List (List ℕ))
gone_at point begun = map path_of_kept (filter (overlaps_kept (path_of_task begun)) point.kept)

-- the begin of the task that comes first is entered with a reply, and there was room for it and for its end
pub record TellsEntry {D K : Type 0} (by : By) (begun : Task) (said : Reply) (old new : Core D K) : Type 0 where
  pub first : first_task (point_in old).work (point_in old).book ≡ Some begun
  pub room : nat_lt old.base.limits.history (spent (point_in old) + 2) ≡ false
  pub history : new.history ≡ old.history ++ begin_entry by (point_in old).book.now begun said ∷ []

-- a job began: its parts are out, and the kept rows that overlap its path are gone
pub record TellsStarted {D K R : Type 0} (g : RegionGhosts R) (by : By) (old new : Core D K) (disk now_disk : ToldDisk) (store now_store : ToldStore)
    (job : Seen R) : Type 0 where
  pub what : Task
  pub entered : TellsEntry by what reply.Started old new
  pub begun : HasJustBegun g (point_in old) what disk now_disk job
  pub rows : now_store.rows ≡ option_map (λ rows. remove_all rows (gone_at (point_in old) what)) store.rows
  pub faults : store.faults ≤ now_store.faults
  -- it was called once where there were such rows, and else not
  pub called : IsStoreCall (are_some (gone_at (point_in old) what)) false false store now_store

-- it was refused, since the state store failed to remove kept rows that overlap its path: the devices have what they had
pub record TellsRefused {D K : Type 0} (by : By) (old new : Core D K) (disk now_disk : ToldDisk) (store now_store : ToldStore) (noted : FaultNote) :
    Type 0 where
  pub what : Task
  pub entered : TellsEntry by what (reply.Refused noted) old new
  pub some : list_any (overlaps_kept (path_of_task what)) (point_in old).kept ≡ true
  pub again : HasAgain disk now_disk
  pub still : IsKeptStill store now_store
  pub note : IsStoreNote store.faults now_store.faults (Some noted)
  pub called : IsStoreCall true true false store now_store

-- it was given up for want of memory: nothing is entered, and the devices have what they had
pub record TellsGivenUp {D K : Type 0} (old new : Core D K) (disk now_disk : ToldDisk) (store now_store : ToldStore) : Type 0 where
  pub history : new.history ≡ old.history
  pub again : HasAgain disk now_disk
  pub still : IsKeptStill store now_store
  pub called : MayWant store now_store

-- what contracts see of what a begin did, by what it answered, where a disk and a state store tell what they have
abbrev pub BeginsTold : {D K R : Type 0} → RegionGhosts R → By → (D → ToldDisk) → (K → ToldStore) → Core D K → Core D K → Begun R → Type 0
BeginsTold g by told stored old new (begun.Started job) =
    TellsStarted g by old new (told old.disk) (told new.disk) (stored old.keeper) (stored new.keeper) job
BeginsTold g by told stored old new begun.Idle = (first_task (point_in old).work (point_in old).book ≡ None) × (new ≡ old)
BeginsTold g by told stored old new (begun.Refused note) =
    TellsRefused by old new (told old.disk) (told new.disk) (stored old.keeper) (stored new.keeper) note
BeginsTold g by told stored old new begun.Full =
    (is_some (first_task (point_in old).work (point_in old).book) ≡ true)
    × (nat_lt old.base.limits.history (spent (point_in old) + 2) ≡ true)
    × (new ≡ old)
BeginsTold g by told stored old new begun.NoMemory =
    TellsGivenUp old new (told old.disk) (told new.disk) (stored old.keeper) (stored new.keeper)

-- no row has the stamp of a row that a clean removed
abbrev pub AreStampsGone : Point → Type 0
AreStampsGone point = (row : Row) → Contains point.book.rows row → list_any (is_same_stamp row.stamp) point.work.cleaned ≡ false
