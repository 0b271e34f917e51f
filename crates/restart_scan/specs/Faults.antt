-- Faults of the devices, as an opening tells them.
use Rattle.std.specs.Prelude.{◌≡◌, ℕ, Bool, true, false, Result, Ok, Err}
use Rattle.mat_io.specs.Causes.{Rose}
use Rattle.mat_model.specs.declared.answers.Device.{Device}
use Rattle.mat_model.specs.declared.answers.Device.TheVariants as device
use Rattle.mat_model.specs.declared.answers.FaultNote.{FaultNote}
use Rattle.restart_scan.specs.declared.refusal.ScanRefusal.{ScanRefusal}
use Rattle.restart_scan.specs.declared.refusal.ScanRefusal.TheVariants as refusal

-- a note of a device's counts around a call
abbrev pub note_of : Device → ℕ → ℕ → FaultNote
note_of device before after = record { device = device; before = before; after = after }

-- whether a refusal is a fault of the state store
abbrev pub is_of_keeper : ScanRefusal → Bool
is_of_keeper (refusal.KeeperFault note) = true
is_of_keeper (refusal.DiskFault note) = false
is_of_keeper (refusal.BadPath text) = false
is_of_keeper (refusal.BadRow path at) = false
is_of_keeper (refusal.Foreign path found) = false
is_of_keeper (refusal.Overlap first second) = false
is_of_keeper (refusal.Rows count) = false
is_of_keeper refusal.NoMemory = false

-- whether a refusal is a fault of the disk
abbrev pub is_of_disk : ScanRefusal → Bool
is_of_disk (refusal.KeeperFault note) = false
is_of_disk (refusal.DiskFault note) = true
is_of_disk (refusal.BadPath text) = false
is_of_disk (refusal.BadRow path at) = false
is_of_disk (refusal.Foreign path found) = false
is_of_disk (refusal.Overlap first second) = false
is_of_disk (refusal.Rows count) = false
is_of_disk refusal.NoMemory = false

-- whether an answer is one
abbrev pub keeper_failed : {X : Type 0} → Result X ScanRefusal → Bool
keeper_failed (Ok x) = false
keeper_failed (Err why) = is_of_keeper why

abbrev pub disk_failed : {X : Type 0} → Result X ScanRefusal → Bool
disk_failed (Ok x) = false
disk_failed (Err why) = is_of_disk why

-- a fault of a part that was lent: the disk's, with the counts of the part around one of its calls, in which they rose
pub record IsPartNote (note : FaultNote) : Type 0 where
  pub device : note.device ≡ device.Disk
  pub rose : Rose note.before note.after

-- a refusal by a look at a part: its fault, or want of memory
abbrev pub IsLookWhy : ScanRefusal → Type 0
IsLookWhy (refusal.KeeperFault note) = ⊥
IsLookWhy (refusal.DiskFault note) = IsPartNote note
IsLookWhy (refusal.BadPath text) = ⊥
IsLookWhy (refusal.BadRow path at) = ⊥
IsLookWhy (refusal.Foreign path found) = ⊥
IsLookWhy (refusal.Overlap first second) = ⊥
IsLookWhy (refusal.Rows count) = ⊥
IsLookWhy refusal.NoMemory = Unit {0}
