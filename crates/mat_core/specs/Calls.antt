-- How a step of a core calls its state store: once at most.
use Rattle.std.specs.Prelude.{Bool, true, false}
use Rattle.std.specs.Option.{is_some}
use Rattle.mat_model.specs.declared.answers.Recorded.{Recorded}
use Rattle.mat_model.specs.declared.answers.Recorded.TheVariants as recorded
use Rattle.mat_model.specs.declared.answers.Reply.{Reply}
use Rattle.mat_model.specs.declared.requests.Asked.{Asked}
use Rattle.mat_model.specs.History.{Point}
use Rattle.mat_model.specs.Kept.{may_fail}
use Rattle.mat_model.specs.Legal.{note_of}
use Rattle.core_devices.specs.Removals.{IsStoreCall}
use Rattle.core_devices.specs.Told.{ToldStore}

-- a request that was entered made one call where it had something to remove or to store, and else none; the call failed where the reply has a note
abbrev pub CallsAsDue : Point → Asked → Reply → ToldStore → ToldStore → Type 0
CallsAsDue point request said store now_store =
    IsStoreCall (may_fail request point.book point.kept) (is_some (note_of said)) false store now_store

-- a step that was given up made no call, or one that wanted memory
pub record MayWant (store now_store : ToldStore) : Type 0 where
  pub made : Bool
  pub called : IsStoreCall made false made store now_store

-- whether a row was to be stored, by how it was recorded
abbrev pub is_stored_call : Recorded → Bool
is_stored_call recorded.Kept = true
is_stored_call (recorded.NotKept note) = true
is_stored_call recorded.NoMemory = true
is_stored_call recorded.Nothing = false
