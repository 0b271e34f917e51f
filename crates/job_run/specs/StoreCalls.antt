-- One call of a job on the store.
use Rattle.std.specs.Prelude.{◌≡◌, ◌≤◌, ℕ, false, List, [], ◌++◌, length, take, Option, Some, None}
use Rattle.std.specs.Option.{option_map}
use Rattle.fetch_port.specs.Fetches.{Blobs, GivesPiece, Lacks, asks_after, held_at}
use Rattle.mat_io.specs.Watches.{Watch, FailsSo, after_call}
use Rattle.mat_digest.specs.Digests.{digest_of}
use Rattle.mat_digest.specs.declared.digest.Digest.{Digest}
use Rattle.mat_io.specs.Causes.{Rose}
use Rattle.mat_model.specs.declared.answers.Device.TheVariants as device
use Rattle.mat_model.specs.declared.entries.Outcome.{Outcome}
use Rattle.mat_model.specs.declared.entries.Outcome.TheVariants as outcome
use Rattle.job_run.specs.Failures.{is_fault, note_of}
use Rattle.job_run.specs.Pieces.{asked_for}
use Rattle.job_run.specs.Readings.{HasGiven, goes_on}
use Rattle.job_run.specs.declared.reading.Reading.{Reading}

-- bytes that a store gave behind those given before, by what it holds under the digest where it tells that: they aren't what was due
pub record WereGiven (wanted : Digest) (held : Option Blobs) (given piece : List ℕ) (at : ℕ) : Type 0 where
  pub wrong : goes_on wanted given piece ≡ false
  pub told : GivesPiece (held_at held wanted) at (asked_for wanted.size at) piece

-- how a call for the next piece of a file may fail: nothing is there; all bytes given have another digest; the store's count rose
abbrev pub IsStoreFailure : Digest → Reading → Option Blobs → ℕ → ℕ → Option Outcome → Type 0
IsStoreFailure wanted reading held before after None = Unit {0}
IsStoreFailure wanted reading held before after (Some outcome.Made) = ⊥
IsStoreFailure wanted reading held before after (Some outcome.Wiped) = ⊥
IsStoreFailure wanted reading held before after (Some (outcome.Missing digest)) = (digest ≡ wanted) × Lacks (held_at held wanted)
IsStoreFailure wanted reading held before after (Some (outcome.Corrupt digest found)) =
    (digest ≡ wanted) × ((given : List ℕ) → HasGiven reading given →
    (piece : List ℕ) × (found ≡ digest_of (given ++ piece)) × WereGiven wanted held given piece reading.at)
IsStoreFailure wanted reading held before after (Some (outcome.Fault note)) = (note ≡ note_of device.Store before after) × Rose before after
IsStoreFailure wanted reading held before after (Some outcome.NoMemory) = Unit {0}

-- one call on the store for the next piece of a file, between these counts, fetches and calls
pub record IsStoreCall (wanted : Digest) (reading : Reading) (held : Option Blobs) (before after asks asked : ℕ) (watched watching : Option Watch) (failure : Option Outcome) : Type 0 where
  pub later : before ≤ after
  pub why : IsStoreFailure wanted reading held before after failure
  pub asks_so : asked ≡ asks_after reading.at asks
  pub watch : watching ≡ option_map after_call watched
  pub fails : FailsSo watched (is_fault failure)

-- ---- what was given for a file over several calls

-- bytes are the first ones that a store holds, where it tells; where it lacks them, there are none
abbrev pub AreFirst : Option (Option (List ℕ)) → List ℕ → Type 0
AreFirst None bytes = Unit {0}
AreFirst (Some None) bytes = bytes ≡ []
AreFirst (Some (Some held)) bytes = bytes ≡ take (length bytes) held

-- all bytes given for a file so far are those that a store holds
pub record IsFrom (blobs : Option Blobs) (wanted : Digest) (reading : Reading) : Type 0 where
  pub given : List ℕ
  pub has : HasGiven reading given
  pub first : AreFirst (held_at blobs wanted) given

-- a store gave bytes that aren't those of a digest: these, in order, each piece what it holds from there, where it tells
pub record Misgives (held : Option (Option (List ℕ))) (wanted found : Digest) : Type 0 where
  pub given : List ℕ
  pub piece : List ℕ
  pub found_is : found ≡ digest_of (given ++ piece)
  pub first : AreFirst held given
  pub wrong : goes_on wanted given piece ≡ false
  pub told : GivesPiece held (length given) (asked_for wanted.size (length given)) piece
