-- What the state store tells after a call that removes rows.
use Rattle.std.specs.Prelude.{◌≡◌, ◌≤◌, ◌<◌, ◌^◌, ℕ, Bool, true, false, List, [], ◌∷◌, Option, Some, None}
use Rattle.std.specs.Option.{option_map}
use Rattle.mat_io.specs.Causes.{Rose}
use Rattle.mat_io.specs.Watches.{CountsSo}
use Rattle.mat_model.specs.declared.answers.Device.TheVariants as device
use Rattle.mat_model.specs.declared.answers.FaultNote.{FaultNote}
use Rattle.keep_port.specs.Rows.{FailsSo, Halts, Watch, after_call, remove_all}
use Rattle.keep_port.specs.declared.row.RawRow.{RawRow}
use Rattle.core_devices.specs.declared.removing.Removal.{Removal}
use Rattle.core_devices.specs.declared.removing.Removal.TheVariants as removal
use Rattle.core_devices.specs.Told.{ToldStore}

-- the rows once those at some paths were to be removed, by how that ended
abbrev pub after_removal : List (List (List ℕ)) → Removal → List RawRow → List RawRow
after_removal paths removal.Done rows = remove_all rows paths
after_removal paths (removal.Failed note) rows = rows
after_removal paths removal.NoMemory rows = rows

-- the note of a removal that failed, and whether memory was wanting
abbrev pub failure_of : Removal → Option FaultNote
failure_of removal.Done = None
failure_of (removal.Failed note) = Some note
failure_of removal.NoMemory = None

abbrev pub has_failed : Removal → Bool
has_failed removal.Done = false
has_failed (removal.Failed note) = true
has_failed removal.NoMemory = false

abbrev pub has_wanted : Removal → Bool
has_wanted removal.Done = false
has_wanted (removal.Failed note) = false
has_wanted removal.NoMemory = true

-- a note, if there is one, is of a call of the state store between these counts, which are of 64 bits
abbrev pub IsStoreNote : ℕ → ℕ → Option FaultNote → Type 0
IsStoreNote before now None = Unit {0}
IsStoreNote before now (Some note) = (note ≡ record { device = device.Keeper; before = before; after = now }) × Rose before now × (now < 2 ^ 64)

-- whether there are some paths
abbrev pub are_some : List (List (List ℕ)) → Bool
are_some [] = false
are_some (path ∷ paths) = true

-- one call was made, or none, and then none failed; one that was made failed as it was called for, and wanted memory where it was halted
abbrev pub CallsStore : Bool → Option Watch → Option Watch → Bool → Bool → Type 0
CallsStore false before now failed wanted = (now ≡ before) × (failed ≡ false) × (wanted ≡ false)
CallsStore true before now failed wanted = (now ≡ option_map after_call before) × FailsSo before failed × Halts before wanted

-- the same of what a state store tells; where it tells its calls, its count rises by one where the call fails, and else stays
pub record IsStoreCall (made failed wanted : Bool) (old new : ToldStore) : Type 0 where
  pub calls : CallsStore made old.watch new.watch failed wanted
  pub counted : CountsSo old.watch old.faults new.faults failed

-- what it tells, by how the removal ended
pub record HasRemoved (paths : List (List (List ℕ))) (said : Removal) (old new : ToldStore) : Type 0 where
  pub rows : new.rows ≡ option_map (after_removal paths said) old.rows
  pub faults : old.faults ≤ new.faults
  pub note : IsStoreNote old.faults new.faults (failure_of said)
  -- it was called where there were some paths
  pub called : IsStoreCall (are_some paths) (has_failed said) (has_wanted said) old new
