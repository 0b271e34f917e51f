-- What contracts see of a job that came back.
use Rattle.std.specs.Prelude.{◌≡◌, ◌++◌, ◌∷◌, [], ℕ, Bool, true, false, length, Option, Some, None}
use Rattle.std.specs.Option.{ForSome, option_map}
use Rattle.hall_lock.specs.declared.By.{By}
use Rattle.mat_tree.specs.Parts.{Part}
use Rattle.mat_model.specs.declared.answers.Recorded.{Recorded}
use Rattle.mat_model.specs.declared.answers.Recorded.TheVariants as recorded
use Rattle.mat_model.specs.WorkState.{Job, Lent, running}
use Rattle.region_port.specs.declared.port.Region.{Ghosts as RegionGhosts}
use Rattle.job_run.specs.declared.job.Done.{Done}
use Rattle.core_laws.specs.Ends.{IsReadPart}
use Rattle.core_devices.specs.Told.{ToldDisk, ToldPart, ToldStore}
use Rattle.mat_core.specs.Cores.{IsSound, MaySpeak, point_in}
use Rattle.mat_core.specs.Cores.{Seen as Core}
use Rattle.mat_core.specs.Ends.{IsEnded, end_entry}
use Rattle.mat_core.specs.Fitting.{back_of, caller_of, fits_at}
use Rattle.mat_core.specs.PutDown.{told_read}
use Rattle.mat_core.specs.declared.ends.Finished.{Finished}
use Rattle.mat_core.specs.declared.ends.Finished.TheVariants as finished

-- ---- the part that was lent

-- a part that was lent, if it came back and tells what it has, has the tree that its row had when the job began, and isn't rough
abbrev pub IsReadBack : Lent → Option ToldPart → Type 0
IsReadBack lent None = Unit {0}
IsReadBack lent (Some part) = ForSome part.content (λ (inner : Part). IsReadPart lent inner part.rough)

-- the part that comes back with a job is as it was lent, where a core's rows may be spoken for and the caller began the job that runs under its number
abbrev pub ReturnsRead : {D K R : Type 0} → (g : RegionGhosts R) → (D → ToldDisk) → (K → ToldStore) → Core D K → ℕ → Done R g → Type 0
ReturnsRead g told stored seen caller came = (job : Job) (lent : Lent) → running came.card.job (point_in seen).work ≡ Some job → job.caller ≡ caller →
    job.lent ≡ Some lent →
    MaySpeak (length seen.base.opening.value.rows) seen.base.check (IsSound seen.base.identity (told seen.base.disk.value) (stored seen.base.keeper.value)) lent.stamp →
    IsReadBack lent (option_map (told_read g) came.loan)

-- ---- what a done did

-- the end of the job that runs is entered, whether it counts or not
pub record TellsEnded {D K R : Type 0} (g : RegionGhosts R) (by : By) (told : D → ToldDisk) (stored : K → ToldStore) (came : Done R g) (fresh : Bool)
    (how : Recorded) (old new : Core D K) : Type 0 where
  pub ended : IsEnded g (point_in old) by came fresh how (told old.disk) (told new.disk) (stored old.keeper) (stored new.keeper)
  pub history : new.history ≡ old.history ++ end_entry by (point_in old) came fresh how ∷ []

-- it isn't the job that runs: it comes back, and nothing changed
pub record TellsStrange {D K R : Type 0} (g : RegionGhosts R) (by : By) (came : Done R g) (owner : Option ℕ) (returned : Done R g) (old new : Core D K) :
    Type 0 where
  pub strange : fits_at (point_in old) by.caller (back_of came) ≡ false
  pub kept : owner ≡ option_map caller_of (running came.card.job (point_in old).work)
  pub back : returned ≡ came
  pub same : new ≡ old

-- what contracts see of what a done did, by what it answered
abbrev pub EndsTold : {D K R : Type 0} → (g : RegionGhosts R) → By → (D → ToldDisk) → (K → ToldStore) → Done R g → Core D K → Core D K → Finished R g → Type 0
EndsTold g by told stored came old new (finished.Fresh how) = TellsEnded g by told stored came true how old new
EndsTold g by told stored came old new finished.Stale = TellsEnded g by told stored came false recorded.Nothing old new
EndsTold g by told stored came old new (finished.Strange kept back) = TellsStrange g by came kept back old new
