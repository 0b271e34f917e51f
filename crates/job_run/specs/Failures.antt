-- How a call on a device failed, and what a device counts around one call.
use Rattle.std.specs.Prelude.{◌≡◌, ◌≤◌, ℕ, Bool, true, false, Option, Some, None}
use Rattle.std.specs.Option.{is_some, option_map}
use Rattle.mat_tree.specs.Parts.{Part}
use Rattle.mat_io.specs.Causes.{Rose}
use Rattle.mat_io.specs.declared.answer.Did.{Did}
use Rattle.mat_io.specs.declared.answer.Did.TheVariants as did
use Rattle.mat_model.specs.declared.answers.Device.{Device}
use Rattle.mat_model.specs.declared.answers.Device.TheVariants as device
use Rattle.mat_model.specs.declared.answers.FaultNote.{FaultNote}
use Rattle.mat_model.specs.declared.entries.Outcome.{Outcome}
use Rattle.mat_model.specs.declared.entries.Outcome.TheVariants as outcome
use Rattle.mat_io.specs.Watches.{FailsSo, Watch, after_call}

-- a note of a device's counts around a call
abbrev pub note_of : Device → ℕ → ℕ → FaultNote
note_of device before after = record { device = device; before = before; after = after }

-- how a call that gives no value failed, if it did
abbrev pub did_failure : ℕ → ℕ → Did → Option Outcome
did_failure before after did.Done = None
did_failure before after did.Failed = Some (outcome.Fault (note_of device.Disk before after))
did_failure before after did.NoMemory = Some outcome.NoMemory

-- whether a failure is a device's
abbrev pub is_fault : Option Outcome → Bool
is_fault None = false
is_fault (Some outcome.Made) = false
is_fault (Some outcome.Wiped) = false
is_fault (Some (outcome.Missing digest)) = false
is_fault (Some (outcome.Corrupt wanted found)) = false
is_fault (Some (outcome.Fault note)) = true
is_fault (Some outcome.NoMemory) = false

-- a failure that a call on the disk may have: one of the disk, or want of memory
abbrev pub IsDiskWhy : Option Outcome → Type 0
IsDiskWhy None = Unit {0}
IsDiskWhy (Some outcome.Made) = ⊥
IsDiskWhy (Some outcome.Wiped) = ⊥
IsDiskWhy (Some (outcome.Missing digest)) = ⊥
IsDiskWhy (Some (outcome.Corrupt wanted found)) = ⊥
IsDiskWhy (Some (outcome.Fault note)) = note.device ≡ device.Disk
IsDiskWhy (Some outcome.NoMemory) = Unit {0}

-- what a call on the disk may fail by: the counts are those around it, and the later one rose
abbrev pub IsDiskFailure : ℕ → ℕ → Option Outcome → Type 0
IsDiskFailure before after None = Unit {0}
IsDiskFailure before after (Some outcome.Made) = ⊥
IsDiskFailure before after (Some outcome.Wiped) = ⊥
IsDiskFailure before after (Some (outcome.Missing digest)) = ⊥
IsDiskFailure before after (Some (outcome.Corrupt wanted found)) = ⊥
IsDiskFailure before after (Some (outcome.Fault note)) = (note ≡ note_of device.Disk before after) × Rose before after
IsDiskFailure before after (Some outcome.NoMemory) = Unit {0}

-- one call on the disk, between these counts and calls
pub record IsDiskCall (before after : ℕ) (watched watching : Option Watch) (failure : Option Outcome) : Type 0 where
  pub later : before ≤ after
  pub why : IsDiskFailure before after failure
  pub watch : watching ≡ option_map after_call watched
  pub fails : FailsSo watched (is_fault failure)

-- what a call on the disk makes of a part: where it failed, the part may have changed anyhow, and is told just where it was
abbrev pub Changes : (Part → Part) → Option Outcome → Option Part → Option Part → Type 0
Changes change None before now = now ≡ option_map change before
Changes change (Some failure) before now = is_some now ≡ is_some before
