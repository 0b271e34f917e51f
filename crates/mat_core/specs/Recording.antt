-- A row that was made is recorded: the state store is asked to take it.
use Rattle.std.specs.Prelude.{◌≡◌, ℕ, true, Option, Some, None}
use Rattle.std.specs.Option.{is_some}
use Rattle.mat_model.specs.declared.answers.Recorded.{Recorded}
use Rattle.mat_model.specs.declared.answers.Recorded.TheVariants as recorded
use Rattle.keep_port.specs.declared.row.RawRow.{RawRow}
use Rattle.job_book.specs.declared.running.KeptBytes.{KeptBytes}
use Rattle.core_devices.specs.Stores.{HasStored}
use Rattle.core_devices.specs.Told.{ToldStore}
use Rattle.mat_core.specs.declared.ending.End.{End}
use Rattle.mat_core.specs.declared.ending.End.TheVariants as end

-- a row as the state store has it, with a last use
abbrev pub raw_of_bytes : KeptBytes → ℕ → RawRow
raw_of_bytes bytes last = record { path = bytes.path.items; body = bytes.body.items; last = last }

-- the state store was asked to take a row, and said so whether it did
abbrev pub HasRecorded : Option KeptBytes → ℕ → Recorded → ToldStore → ToldStore → Type 0
HasRecorded None last how old new = ⊥
HasRecorded (Some bytes) last how old new = HasStored (raw_of_bytes bytes last) how old new

-- a row that stands has bytes that may be stored
abbrev pub HasBytesFor : End → Option KeptBytes → Type 0
HasBytesFor (end.Stands stamp sum last) kept = is_some kept ≡ true
HasBytesFor _ kept = Unit {0}

-- what came of a task was recorded so: the row that stands was to be stored, and else nothing was
abbrev pub IsRecordedEnd : End → Option KeptBytes → Recorded → ToldStore → ToldStore → Type 0
IsRecordedEnd (end.Stands stamp sum last) kept how old new = HasRecorded kept last how old new
IsRecordedEnd _ kept how old new = (how ≡ recorded.Nothing) × (new ≡ old)
