-- What an opening answers: of the rows that the state store tells, of the devices' calls, and of the strays.
use Rattle.std.specs.Prelude.{◌≡◌, ◌≤◌, ◌⊎◌, ◌+◌, ℕ, Bool, true, false, List, [], ◌∷◌, ◌++◌, length, map, Option, Some, None, Result, Ok, Err, is_ok}
use Rattle.std.specs.Option.{option_map}
use Rattle.std.specs.declared.alloc.Global.{Global}
use Rattle.std.specs.declared.vec.Vec.{Vec}
use Rattle.mat_io.specs.Causes.{Rose}
use Rattle.mat_io.specs.Watches.{FailsSo, Watch, after_call}
use Rattle.keep_port.specs.Rows.{Watch as KeeperWatch, after_call as after_keeper_call, remove_all}
use Rattle.mat_tree.specs.Parts.{Part}
use Rattle.region_port.specs.Strays.{AreTold}
use Rattle.keep_port.specs.declared.row.RawRow.{RawRow}
use Rattle.mat_model.specs.declared.answers.Device.{Device}
use Rattle.mat_model.specs.declared.answers.Device.TheVariants as device
use Rattle.mat_model.specs.declared.answers.FaultNote.{FaultNote}
use Rattle.mat_model.specs.declared.opening.Opening.{Opening}
use Rattle.mat_model.specs.Kept.{KeptRow}
use Rattle.mat_model.specs.Openings.{path_of_row}
use Rattle.restart_scan.specs.Faults.{IsPartNote, is_of_disk, is_of_keeper, note_of}
use Rattle.restart_scan.specs.Opened.{IsOf}
use Rattle.restart_scan.specs.Rows.{Read, kept_list, kept_rows}
use Rattle.restart_scan.specs.Sorting.{AreLost}
use Rattle.restart_scan.specs.declared.kept.Kept.{Kept}
use Rattle.restart_scan.specs.declared.refusal.ScanRefusal.{ScanRefusal}
use Rattle.restart_scan.specs.declared.refusal.ScanRefusal.TheVariants as refusal

-- ---- faults

-- a fault has the counts of its device around the call
abbrev pub IsNoted : Device → ℕ → ℕ → ScanRefusal → Type 0
IsNoted of before after (refusal.KeeperFault note) = note ≡ note_of of before after
IsNoted of before after (refusal.DiskFault note) = note ≡ note_of of before after
IsNoted of before after (refusal.BadPath text) = Unit {0}
IsNoted of before after (refusal.BadRow path at) = Unit {0}
IsNoted of before after (refusal.Foreign path found) = Unit {0}
IsNoted of before after (refusal.Overlap first second) = Unit {0}
IsNoted of before after (refusal.Rows count) = Unit {0}
IsNoted of before after refusal.NoMemory = Unit {0}

-- a fault of the state store has its counts around the call
abbrev pub NotesKeeper : {X : Type 0} → ℕ → ℕ → Result X ScanRefusal → Type 0
NotesKeeper before after (Ok x) = Unit {0}
NotesKeeper before after (Err why) = is_of_keeper why ≡ true → IsNoted device.Keeper before after why

-- a fault of the disk has its counts around the call
abbrev pub NotesDisk : {X : Type 0} → ℕ → ℕ → Result X ScanRefusal → Type 0
NotesDisk before after (Ok x) = Unit {0}
NotesDisk before after (Err why) = is_of_disk why ≡ true → IsNoted device.Disk before after why

-- one call of the disk, which failed or did not
pub record IsOneCall (failed : Bool) (before after : Option Watch) : Type 0 where
  pub made : after ≡ option_map after_call before
  pub fails : FailsSo before failed

-- the calls of the disk by an answer: one where it is an opening or the disk's fault, one or none where memory was wanting, and else none
abbrev pub CallsBy : ScanRefusal → Option Watch → Option Watch → Type 0
CallsBy (refusal.KeeperFault note) before after = after ≡ before
CallsBy (refusal.DiskFault note) before after = IsOneCall true before after
CallsBy (refusal.BadPath text) before after = after ≡ before
CallsBy (refusal.BadRow path at) before after = after ≡ before
CallsBy (refusal.Foreign path found) before after = after ≡ before
CallsBy (refusal.Overlap first second) before after = after ≡ before
CallsBy (refusal.Rows count) before after = after ≡ before
CallsBy refusal.NoMemory before after = (after ≡ before) ⊎ IsOneCall false before after

abbrev pub CallsDisk : {X : Type 0} → Result X ScanRefusal → Option Watch → Option Watch → Type 0
CallsDisk (Ok x) before after = IsOneCall false before after
CallsDisk (Err why) before after = CallsBy why before after

-- a refusal of the state store's call alone, or of the disk's: its fault, or want of memory
abbrev pub IsKeeperWhy : ScanRefusal → Type 0
IsKeeperWhy (refusal.KeeperFault note) = Unit {0}
IsKeeperWhy (refusal.DiskFault note) = ⊥
IsKeeperWhy (refusal.BadPath text) = ⊥
IsKeeperWhy (refusal.BadRow path at) = ⊥
IsKeeperWhy (refusal.Foreign path found) = ⊥
IsKeeperWhy (refusal.Overlap first second) = ⊥
IsKeeperWhy (refusal.Rows count) = ⊥
IsKeeperWhy refusal.NoMemory = Unit {0}

abbrev pub IsDiskWhy : ScanRefusal → Type 0
IsDiskWhy (refusal.KeeperFault note) = ⊥
IsDiskWhy (refusal.DiskFault note) = Unit {0}
IsDiskWhy (refusal.BadPath text) = ⊥
IsDiskWhy (refusal.BadRow path at) = ⊥
IsDiskWhy (refusal.Foreign path found) = ⊥
IsDiskWhy (refusal.Overlap first second) = ⊥
IsDiskWhy (refusal.Rows count) = ⊥
IsDiskWhy refusal.NoMemory = Unit {0}

-- ---- rows

-- a refusal, beside the first one that the rows of the state store have: a fault of the disk comes only where they have none
abbrev pub Refuses : ScanRefusal → Read (List KeptRow) → Type 0
Refuses (refusal.KeeperFault note) read = Unit {0}
Refuses (refusal.DiskFault note) read = is_ok read ≡ true
Refuses (refusal.BadPath text) read = read ≡ Err (refusal.BadPath text)
Refuses (refusal.BadRow path at) read = read ≡ Err (refusal.BadRow path at)
Refuses (refusal.Foreign path found) read = read ≡ Err (refusal.Foreign path found)
Refuses (refusal.Overlap first second) read = read ≡ Err (refusal.Overlap first second)
Refuses (refusal.Rows count) read = read ≡ Err (refusal.Rows count)
Refuses refusal.NoMemory read = Unit {0}

-- an opening of what was read
abbrev pub Opens : Opening → Read (List KeptRow) → Type 0
Opens opening (Ok kept) = IsOf kept opening
Opens opening (Err why) = ⊥

-- an answer, beside what the rows of the state store are read as
abbrev pub Answers : Result Opening ScanRefusal → Read (List KeptRow) → Type 0
Answers (Ok opening) read = Opens opening read
Answers (Err why) read = Refuses why read

-- the same, where the state store tells its rows
abbrev pub AnswersTold : ℕ → ℕ → Option (List RawRow) → Result Opening ScanRefusal → Type 0
AnswersTold most identity None answer = Unit {0}
AnswersTold most identity (Some raws) answer = Answers answer (kept_rows most identity raws)

-- what was read of the rows of the state store, where it tells them
abbrev pub Reads : Result (Vec Kept Global) ScanRefusal → Read (List KeptRow) → Type 0
Reads (Ok rows) read = read ≡ Ok (kept_list rows)
Reads (Err why) read = Refuses why read

abbrev pub ReadsTold : ℕ → ℕ → Option (List RawRow) → Result (Vec Kept Global) ScanRefusal → Type 0
ReadsTold most identity None answer = Unit {0}
ReadsTold most identity (Some raws) answer = Reads answer (kept_rows most identity raws)

-- ---- openings

-- how many rows an opening has, with those that are lost
abbrev pub count_of : Opening → ℕ
count_of opening = length opening.rows + length opening.lost

-- the paths of its kept rows, lost or not
abbrev pub known_paths : Opening → List (List (List ℕ))
known_paths opening = map path_of_row opening.rows ++ opening.lost

-- the strays of an opening, where the disk tells what it has: the topmost nodes that are apart from these paths
abbrev pub HasStrays : Option Part → Opening → Type 0
HasStrays content opening = AreTold (known_paths opening) content opening.strays

-- ---- openings with a look at the parts

-- of what was read, those are lost whose trees the disk hasn't, where it tells what it has
abbrev pub Loses : Option Part → Opening → Read (List KeptRow) → Type 0
Loses content opening (Ok kept) = AreLost content kept opening.lost
Loses content opening (Err why) = ⊥

-- the same, where the state store tells its rows
abbrev pub LosesTold : ℕ → ℕ → Option (List RawRow) → Option Part → Opening → Type 0
LosesTold most identity None content opening = Unit {0}
LosesTold most identity (Some raws) content opening = Loses content opening (kept_rows most identity raws)

-- a fault of the state store has its counts around one of its calls
pub record IsKeeperNote (before after : ℕ) (note : FaultNote) : Type 0 where
  pub device : note.device ≡ device.Keeper
  pub later : before ≤ note.before
  pub rose : Rose note.before note.after
  pub ends : note.after ≤ after

abbrev pub IsKeeperNoted : ℕ → ℕ → ScanRefusal → Type 0
IsKeeperNoted before after (refusal.KeeperFault note) = IsKeeperNote before after note
IsKeeperNoted before after (refusal.DiskFault note) = Unit {0}
IsKeeperNoted before after (refusal.BadPath text) = Unit {0}
IsKeeperNoted before after (refusal.BadRow path at) = Unit {0}
IsKeeperNoted before after (refusal.Foreign path found) = Unit {0}
IsKeeperNoted before after (refusal.Overlap first second) = Unit {0}
IsKeeperNoted before after (refusal.Rows count) = Unit {0}
IsKeeperNoted before after refusal.NoMemory = Unit {0}

-- a fault of the disk has its counts, or those of a part that it lent, around one of their calls
abbrev pub IsDiskNoted : ScanRefusal → Type 0
IsDiskNoted (refusal.KeeperFault note) = Unit {0}
IsDiskNoted (refusal.DiskFault note) = IsPartNote note
IsDiskNoted (refusal.BadPath text) = Unit {0}
IsDiskNoted (refusal.BadRow path at) = Unit {0}
IsDiskNoted (refusal.Foreign path found) = Unit {0}
IsDiskNoted (refusal.Overlap first second) = Unit {0}
IsDiskNoted (refusal.Rows count) = Unit {0}
IsDiskNoted refusal.NoMemory = Unit {0}

-- what the state store tells once the rows at some paths are removed in one call, and in none where there is no path
abbrev pub watch_less : List (List (List ℕ)) → Option KeeperWatch → Option KeeperWatch
watch_less [] watch = watch
watch_less (path ∷ paths) watch = option_map after_keeper_call watch

-- the rows of the state store without those at some paths
abbrev pub less : List (List (List ℕ)) → List RawRow → List RawRow
less paths rows = remove_all rows paths

-- the rows at some paths are removed, unless the answer is a refusal
abbrev pub IsRemoved : {X : Type 0} → List (List (List ℕ)) → Result X ScanRefusal → Option (List RawRow) → Option (List RawRow) → Type 0
IsRemoved paths (Ok x) before after = after ≡ option_map (less paths) before
IsRemoved paths (Err why) before after = after ≡ before

-- the rows of the state store are left but for the lost ones of an opening, and all of them where there is none
abbrev pub IsLessLost : Result Opening ScanRefusal → Option (List RawRow) → Option (List RawRow) → Type 0
IsLessLost (Ok opening) before after = after ≡ option_map (less opening.lost) before
IsLessLost (Err why) before after = after ≡ before

-- one call of the state store, or two
abbrev pub CallsOnceOrTwice : Option KeeperWatch → Option KeeperWatch → Type 0
CallsOnceOrTwice before after =
    (after ≡ option_map after_keeper_call before) ⊎ (after ≡ option_map after_keeper_call (option_map after_keeper_call before))

-- the calls of the state store by a refusal: two only where it is of the removal
abbrev pub CallsKeeperBy : ScanRefusal → Option KeeperWatch → Option KeeperWatch → Type 0
CallsKeeperBy (refusal.KeeperFault note) before after = CallsOnceOrTwice before after
CallsKeeperBy (refusal.DiskFault note) before after = after ≡ option_map after_keeper_call before
CallsKeeperBy (refusal.BadPath text) before after = after ≡ option_map after_keeper_call before
CallsKeeperBy (refusal.BadRow path at) before after = after ≡ option_map after_keeper_call before
CallsKeeperBy (refusal.Foreign path found) before after = after ≡ option_map after_keeper_call before
CallsKeeperBy (refusal.Overlap first second) before after = after ≡ option_map after_keeper_call before
CallsKeeperBy (refusal.Rows count) before after = after ≡ option_map after_keeper_call before
CallsKeeperBy refusal.NoMemory before after = CallsOnceOrTwice before after

-- the calls of the state store: one that tells the rows, and one more where some are lost
abbrev pub CallsKeeper : Result Opening ScanRefusal → Option KeeperWatch → Option KeeperWatch → Type 0
CallsKeeper (Ok opening) before after = after ≡ watch_less opening.lost (option_map after_keeper_call before)
CallsKeeper (Err why) before after = CallsKeeperBy why before after
