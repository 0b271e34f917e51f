-- Legal histories: the rules of an entry at its point, each by its name, and a history all of whose entries keep them.
use Rattle.std.specs.Prelude.{◌≡◌, ◌⊎◌, ℕ, ◌-◌, ◌^◌, ◌<◌, ◌≤◌, ◌==◌, ◌&&◌, ◌||◌, nat_le, nat_lt, Bool, true, false, not, List, [], ◌∷◌, count_by, Option, Some, None}
use Rattle.std.specs.List.{list_all}
use Rattle.mat_path.specs.Names.{is_path}
use Rattle.mat_tree.specs.declared.flat.Flat.{Flat}
use Rattle.mat_tree.specs.declared.sum.Kind.{Kind}
use Rattle.mat_tree.specs.declared.sum.Kind.TheVariants as kind
use Rattle.mat_tree.specs.declared.sum.Sum.{Sum}
use Rattle.mat_tree.specs.Trees.{IsTree, greatest_file, is_placed, same_kind}
use Rattle.mat_model.specs.declared.answers.Device.{Device}
use Rattle.mat_model.specs.declared.answers.Device.TheVariants as device
use Rattle.mat_model.specs.declared.answers.FaultNote.{FaultNote}
use Rattle.mat_model.specs.declared.answers.Recorded.{Recorded}
use Rattle.mat_model.specs.declared.answers.Recorded.TheVariants as recorded
use Rattle.mat_model.specs.declared.answers.Reply.{Reply}
use Rattle.mat_model.specs.declared.answers.Reply.TheVariants as reply
use Rattle.mat_model.specs.declared.entries.Entry.{Entry}
use Rattle.mat_model.specs.declared.entries.Event.{Event}
use Rattle.mat_model.specs.declared.entries.Event.TheVariants as event
use Rattle.mat_model.specs.declared.entries.Outcome.{Outcome}
use Rattle.mat_model.specs.declared.entries.Outcome.TheVariants as outcome
use Rattle.mat_model.specs.declared.entries.Task.{Task}
use Rattle.mat_model.specs.declared.entries.Task.TheVariants as task
use Rattle.mat_model.specs.declared.limits.Limits.{Limits}
use Rattle.mat_model.specs.declared.opening.Opening.{Opening}
use Rattle.mat_model.specs.declared.requests.Asked.{Asked}
use Rattle.mat_model.specs.declared.requests.Asked.TheVariants as asked
use Rattle.mat_model.specs.History.{Point, after, answer, is_keeper, opened}
use Rattle.mat_model.specs.Room.{HasRoom}
use Rattle.mat_model.specs.WorkState.{Job, first_task, running}

-- ---- what an entry says

-- its reply is the one of the definitions
abbrev pub IsReplied : Point → Entry → Type 0
IsReplied point entry = entry.reply ≡ (answer point entry.now entry.event entry.reply).reply

-- its moment is the book's afterwards
abbrev pub IsAtMoment : Point → Entry → Type 0
IsAtMoment point entry = entry.now ≡ (after point entry).book.now

-- whether an entry is a caller's
abbrev pub is_of : ℕ → Entry → Bool
is_of caller entry = entry.by.caller == caller

-- its number is the number of its caller's earlier entries
abbrev pub IsNumbered : Point → Entry → Type 0
IsNumbered point entry = entry.by.number ≡ count_by (is_of entry.by.caller) point.history

-- ---- the order of work

-- whether a job may end so: a make doesn't end wiped, and a wipe ends wiped, with a fault or for want of memory
abbrev pub may_end : Task → Outcome → Bool
may_end (task.Make path stamp) outcome.Wiped = false
may_end (task.Make path stamp) _ = true
may_end (task.Wipe path) outcome.Wiped = true
may_end (task.Wipe path) (outcome.Fault note) = true
may_end (task.Wipe path) outcome.NoMemory = true
may_end (task.Wipe path) _ = false

-- whether a job, if there is one, may end so for a caller: the caller began it, and its kind of task has this outcome
abbrev pub may_end_by : Option Job → ℕ → Outcome → Bool
may_end_by None caller out = false
may_end_by (Some job) caller out = (job.caller == caller) && may_end job.task out

-- work comes in order: a begin takes the task that comes first, and a done ends a job that runs, by its own caller and as it may end
abbrev pub IsInOrder : Point → ℕ → Event → Type 0
IsInOrder point caller (event.Asked request) = Unit {0}
IsInOrder point caller (event.Begin begun) = first_task point.work point.book ≡ Some begun
IsInOrder point caller (event.Done number out) = may_end_by (running number point.work) caller out ≡ true

abbrev pub ComesInOrder : Point → Entry → Type 0
ComesInOrder point entry = IsInOrder point entry.by.caller entry.event

-- an entry follows a point: it says what the definitions say there, and its work comes in order
pub record Follows (point : Point) (entry : Entry) : Type 0 where
  pub reply : IsReplied point entry
  pub moment : IsAtMoment point entry
  pub number : IsNumbered point entry
  pub order : ComesInOrder point entry

-- ---- what the state store adds

-- whether nothing was recorded
abbrev pub is_nothing : Recorded → Bool
is_nothing recorded.Kept = false
is_nothing (recorded.NotKept note) = false
is_nothing recorded.NoMemory = false
is_nothing recorded.Nothing = true

-- whether a job made its row
abbrev pub is_made : Event → Bool
is_made (event.Done job outcome.Made) = true
is_made _ = false

-- what counts is recorded exactly where a row was made
abbrev pub IsRecordedAs : Event → Reply → Type 0
IsRecordedAs happened (reply.Fresh how) = is_nothing how ≡ not (is_made happened)
IsRecordedAs happened _ = Unit {0}

abbrev pub IsRecorded : Point → Entry → Type 0
IsRecorded point entry = IsRecordedAs entry.event entry.reply

-- the note of the state store that a reply has, if it has one
abbrev pub note_recorded : Recorded → Option FaultNote
note_recorded recorded.Kept = None
note_recorded (recorded.NotKept note) = Some note
note_recorded recorded.NoMemory = None
note_recorded recorded.Nothing = None

abbrev pub note_of : Reply → Option FaultNote
note_of (reply.Fault note) = Some note
note_of (reply.Refused note) = Some note
note_of (reply.Fresh how) = note_recorded how
note_of _ = None

-- the count behind a note, if there is one
abbrev pub behind : ℕ → Option FaultNote → ℕ
behind count None = count
behind count (Some note) = note.after

-- the store's count behind the notes of some entries, from one on
abbrev pub count_behind : ℕ → List Entry → ℕ
count_behind count [] = count
count_behind count (entry ∷ entries) = count_behind (behind count (note_of entry.reply)) entries

-- the count of a note rose, or stands at the last number that 64 bits hold
abbrev pub HasRisen : FaultNote → Type 0
HasRisen note = (note.before < note.after) ⊎ ((note.before ≡ 2 ^ 64 - 1) × (note.after ≡ 2 ^ 64 - 1))

-- a note is of the state store, its count rose, and it begins no earlier than a count
abbrev pub IsNoteFrom : ℕ → Option FaultNote → Type 0
IsNoteFrom count None = Unit {0}
IsNoteFrom count (Some note) = (is_keeper note.device ≡ true) × (count ≤ note.before) × HasRisen note

-- the notes of the state store don't overlap
abbrev pub IsNoteApart : Point → Entry → Type 0
IsNoteApart point entry = IsNoteFrom (count_behind 0 point.history) (note_of entry.reply)

-- ---- how a job fails

-- the note of a fault with which a job ended, if it did
abbrev pub note_of_outcome : Outcome → Option FaultNote
note_of_outcome (outcome.Fault note) = Some note
note_of_outcome _ = None

abbrev pub note_of_end : Event → Option FaultNote
note_of_end (event.Done job out) = note_of_outcome out
note_of_end _ = None

-- whether a device may fail a task: the disk any, and the blob store a make
abbrev pub may_fault : Task → Device → Bool
may_fault begun device.Disk = true
may_fault (task.Make path stamp) device.Store = true
may_fault (task.Wipe path) device.Store = false
may_fault begun device.Keeper = false

-- whether it may fail the job that an event ends
abbrev pub may_fault_job : Option Job → Device → Bool
may_fault_job None at = false
may_fault_job (Some job) at = may_fault job.task at

abbrev pub may_fault_end : Point → Event → Device → Bool
may_fault_end point (event.Asked request) at = false
may_fault_end point (event.Begin begun) at = false
may_fault_end point (event.Done job out) at = may_fault_job (running job point.work) at

-- the note of a job that failed is of a device that its task calls, and its count rose
abbrev pub IsFaultOf : (Device → Bool) → Option FaultNote → Type 0
IsFaultOf may None = Unit {0}
IsFaultOf may (Some note) = (may note.device ≡ true) × HasRisen note

abbrev pub IsFaulted : Point → Entry → Type 0
IsFaulted point entry = IsFaultOf (may_fault_end point entry.event) (note_of_end entry.event)

-- ---- what may be asked

-- moments and cutoffs are below this
abbrev pub end_of_time : ℕ
end_of_time = 2 ^ 63

-- whether a sum may be that of a write: a plain file's, within the limit of a file
abbrev pub may_write : Sum → Bool
may_write sum = same_kind sum.kind kind.File && nat_le sum.digest.size greatest_file

-- a sum may be written at a place: the place is a path
pub record MayWrite (place : List (List ℕ)) (sum : Sum) : Type 0 where
  pub placed : is_path place ≡ true
  pub plain : may_write sum ≡ true

-- a tree may be declared at a path: it is a tree, and each of its nodes is at a path there
pub record MayDeclare (path : List (List ℕ)) (tree : List Flat) : Type 0 where
  pub whole : IsTree tree
  pub placed : list_all (is_placed path) tree ≡ true

-- what a request may ask
abbrev pub MayAsk : Asked → Type 0
MayAsk (asked.Write command path sum) = MayWrite path sum
MayAsk (asked.Declare command path tree) = MayDeclare path tree
MayAsk (asked.Clean cutoff mode) = nat_lt cutoff end_of_time ≡ true
MayAsk _ = Unit {0}

abbrev pub MayHappen : Event → Type 0
MayHappen (event.Asked request) = MayAsk request
MayHappen (event.Begin begun) = Unit {0}
MayHappen (event.Done job out) = Unit {0}

abbrev pub IsAskable : Point → Entry → Type 0
IsAskable point entry = MayHappen entry.event

-- a moment is below the end of time, unless it is the one that the book had
abbrev pub may_be_now : ℕ → ℕ → Bool
may_be_now before moment = (moment == before) || nat_lt moment end_of_time

abbrev pub IsInTime : Point → Entry → Type 0
IsInTime point entry = may_be_now point.book.now entry.now ≡ true

-- ---- legal histories

-- an entry is legal at a point, where a daemon has some limits
pub record IsLegalEntry (limits : Limits) (point : Point) (entry : Entry) : Type 0 where
  -- its reply, its moment and its number are those of the definitions, and work comes in order
  pub follows : Follows point entry
  -- there was room for it
  pub room : HasRoom limits point entry
  -- what counts is recorded exactly where a row was made
  pub recorded : IsRecorded point entry
  -- the notes of the state store don't overlap
  pub notes : IsNoteApart point entry
  -- a job's fault is of a device that it calls, whose count rose
  pub faulted : IsFaulted point entry
  -- it asks for what may be asked, at a moment that may come
  pub askable : IsAskable point entry
  pub time : IsInTime point entry

-- a rule holds of each entry at its point
abbrev pub IsEach : (Point → Entry → Type 0) → Point → List Entry → Type 0
IsEach Rule point [] = Unit {0}
IsEach Rule point (entry ∷ entries) = Rule point entry × IsEach Rule (after point entry) entries

-- each entry of a history follows, from an opening on
abbrev pub FollowsFrom : Opening → List Entry → Type 0
FollowsFrom opening history = IsEach Follows (opened opening) history

-- a history is legal from an opening, where a daemon has some limits
abbrev pub IsLegal : Limits → Opening → List Entry → Type 0
IsLegal limits opening history = IsEach (IsLegalEntry limits) (opened opening) history
