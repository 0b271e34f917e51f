-- What the state store tells after a call that stores rows.
use Rattle.std.specs.Prelude.{◌≡◌, ◌≤◌, ◌∷◌, [], Bool, true, false, List}
use Rattle.std.specs.Option.{option_map}
use Rattle.mat_model.specs.declared.answers.Recorded.{Recorded}
use Rattle.mat_model.specs.declared.answers.Recorded.TheVariants as recorded
use Rattle.mat_model.specs.Legal.{note_recorded}
use Rattle.keep_port.specs.Rows.{put_all}
use Rattle.keep_port.specs.declared.row.RawRow.{RawRow}
use Rattle.core_devices.specs.Removals.{IsStoreCall, IsStoreNote}
use Rattle.core_devices.specs.Told.{ToldStore}

-- the rows once one was to be stored, by how that was recorded
abbrev pub after_storing : RawRow → Recorded → List RawRow → List RawRow
after_storing row recorded.Kept rows = put_all rows (row ∷ [])
after_storing row (recorded.NotKept note) rows = rows
after_storing row recorded.NoMemory rows = rows
after_storing row recorded.Nothing rows = rows

-- whether the state store failed, and whether it wanted memory
abbrev pub is_unkept : Recorded → Bool
is_unkept recorded.Kept = false
is_unkept (recorded.NotKept note) = true
is_unkept recorded.NoMemory = false
is_unkept recorded.Nothing = false

abbrev pub is_unwanted : Recorded → Bool
is_unwanted recorded.Kept = false
is_unwanted (recorded.NotKept note) = false
is_unwanted recorded.NoMemory = true
is_unwanted recorded.Nothing = false

-- what it tells, by how the row was recorded: it was recorded somehow
pub record HasStored (row : RawRow) (how : Recorded) (old new : ToldStore) : Type 0 where
  pub rows : new.rows ≡ option_map (after_storing row how) old.rows
  pub faults : old.faults ≤ new.faults
  pub note : IsStoreNote old.faults new.faults (note_recorded how)
  pub some : how ≡ recorded.Nothing → ⊥
  pub called : IsStoreCall true (is_unkept how) (is_unwanted how) old new
