-- What became of a job that came back.
use Rattle.std.specs.Prelude.{◌≡◌, ◌≤◌, ◌<◌, ◌^◌, ◌++◌, ◌∷◌, [], ℕ, Bool, true, false, Option, Some, None}
use Rattle.std.specs.Option.{ForSome, option_map}
use Rattle.hall_lock.specs.declared.By.{By}
use Rattle.mat_tree.specs.Parts.{HasTree, Part, bare}
use Rattle.mat_model.specs.declared.answers.FaultNote.{FaultNote}
use Rattle.mat_model.specs.declared.answers.Recorded.{Recorded}
use Rattle.mat_model.specs.declared.answers.Recorded.TheVariants as recorded
use Rattle.mat_model.specs.declared.entries.Entry.{Entry}
use Rattle.mat_model.specs.History.{Point, after}
use Rattle.mat_model.specs.Legal.{IsFaultOf, may_fault, note_of_outcome, note_recorded}
use Rattle.mat_model.specs.WorkState.{Job, running}
use Rattle.region_port.specs.Calls.{Paths, nowhere}
use Rattle.region_port.specs.declared.port.Region.{Ghosts as RegionGhosts}
use Rattle.region_port.specs.declared.states.Part.{Part as State}
use Rattle.region_port.specs.declared.states.Part.TheVariants as state
use Rattle.job_run.specs.declared.job.Done.{Done}
use Rattle.core_laws.specs.Stored.{HasDiskRisen, IsStore, leaves_by}
use Rattle.core_devices.specs.Events.{HasBack, HasJoined, IsEndedTold}
use Rattle.core_devices.specs.Gives.{content_of, rough_of}
use Rattle.core_devices.specs.Removals.{IsStoreCall, IsStoreNote}
use Rattle.core_devices.specs.Stores.{is_unkept, is_unwanted}
use Rattle.core_devices.specs.Told.{ToldDisk, ToldPart, ToldStore}
use Rattle.mat_core.specs.Calls.{is_stored_call}
use Rattle.mat_core.specs.Begins.{IsSameCore}
use Rattle.mat_core.specs.Books.{StandFor}
use Rattle.mat_core.specs.Ending.{IsRecordedFor, done_entry, is_fresh, reply_ended}
use Rattle.mat_core.specs.Fitting.{back_of, caller_of, fits_at, fits_job}
use Rattle.mat_core.specs.Orders.{AreReady}
use Rattle.mat_core.specs.PutDown.{told_read}
use Rattle.mat_core.specs.Rooms.{HasReserves}
use Rattle.mat_core.specs.declared.ends.Finished.{Finished}
use Rattle.mat_core.specs.declared.ends.Finished.TheVariants as finished
use Rattle.mat_core.specs.declared.parts.Parts.{Parts}

-- what is known of a region that a part kept, by the part's state: it has the tree, or nothing, and isn't rough
abbrev pub IsLeftBy : {R : Type 0} {g : RegionGhosts R} → State R g → Option Part → Paths → Type 0
IsLeftBy (state.Rough left) content rough = Unit {0}
IsLeftBy (state.Settled left) content rough = ForSome content (λ (part : Part). HasTree part left.tree) × (rough ≡ nowhere)
IsLeftBy (state.Bare left) content rough = ForSome content (λ (part : Part). part ≡ bare) × (rough ≡ nowhere)

-- the counts of a note, if there is one, are numbers of 64 bits
abbrev pub AreCounts : Option FaultNote → Type 0
AreCounts None = Unit {0}
AreCounts (Some note) = (note.before < 2 ^ 64) × (note.after < 2 ^ 64)

-- ---- an end

-- the entry of the end of a job at a point
abbrev pub end_entry : {R : Type 0} {g : RegionGhosts R} → By → Point → Done R g → Bool → Recorded → Entry
end_entry by point came fresh how = done_entry by point.book.now came.card.job came.outcome (reply_ended fresh how)

-- the job that runs at a point ended: its parts are back on the disk, and its row was recorded so
pub record IsEnded {R : Type 0} (g : RegionGhosts R) (point : Point) (by : By) (came : Done R g) (fresh : Bool) (how : Recorded)
    (disk now_disk : ToldDisk) (store now_store : ToldStore) : Type 0 where
  -- it is the job that came back
  pub job : Job
  pub runs : running came.card.job point.work ≡ Some job
  pub fits : fits_job point.book.rows by.caller (back_of came) job ≡ true
  -- its end counts unless it made a row that is gone, and exactly a row that was made is recorded
  pub counts : fresh ≡ is_fresh job.task point.book.rows
  pub records : IsRecordedFor job.task came.outcome point.book.rows how
  pub faulted : IsFaultOf (may_fault job.task) (note_of_outcome came.outcome)
  -- its parts are back: its task's is as the outcome says
  pub its : ToldPart
  pub back : HasBack job its.content its.rough (content_of (option_map (told_read g) came.loan)) (rough_of (option_map (told_read g) came.loan)) disk now_disk
  pub joined : HasJoined its (option_map (told_read g) came.loan) disk now_disk
  pub ended : IsEndedTold job.task came.outcome point.book.rows its.content its.rough
  pub risen : HasDiskRisen now_disk.faults (note_of_outcome came.outcome)
  -- the state store has what it had unless it took a row, and a note is of a call between its counts
  pub still : leaves_by how ≡ true → now_store.rows ≡ store.rows
  pub faults : store.faults ≤ now_store.faults
  pub note : IsStoreNote store.faults now_store.faults (note_recorded how)
  pub called : IsStoreCall (is_stored_call how) (is_unkept how) (is_unwanted how) store now_store

-- it is entered, and the parts stand for the point behind the entry
pub record HasEnded {D K R : Type 0} (g : RegionGhosts R) (point : Point) (by : By) (came : Done R g) (fresh : Bool) (how : Recorded) (old new : Parts D K)
    (disk now_disk : ToldDisk) (store now_store : ToldStore) : Type 0 where
  pub ended : IsEnded g point by came fresh how disk now_disk store now_store
  pub same : IsSameCore old new
  pub moment : new.moment ≡ point.book.now
  pub history : new.history.items ≡ old.history.items ++ end_entry by point came fresh how ∷ []
  pub stands : StandFor new (after point (end_entry by point came fresh how))
  pub reserves : HasReserves new
  pub ready : AreReady new
  -- where the state store had the kept rows of the point, it has those of the point behind the entry
  pub rows : ForSome store.rows (IsStore old.base.identity point.kept) →
      ForSome now_store.rows (IsStore old.base.identity (after point (end_entry by point came fresh how)).kept)

-- it isn't the job that runs: it comes back, and the parts are what they were
pub record IsStrange {D K R : Type 0} (g : RegionGhosts R) (point : Point) (by : By) (came : Done R g) (owner : Option ℕ) (returned : Done R g)
    (old new : Parts D K) : Type 0 where
  pub strange : fits_at point by.caller (back_of came) ≡ false
  pub kept : owner ≡ option_map caller_of (running came.card.job point.work)
  pub back : returned ≡ came
  pub same : new ≡ old

-- what became of a job that came back, by what was answered
abbrev pub EndsSo : {D K R : Type 0} → (g : RegionGhosts R) → Point → By → Done R g → Parts D K → Parts D K → ToldDisk → ToldDisk → ToldStore →
    ToldStore → Finished R g → Type 0
EndsSo g point by came old new disk now_disk store now_store (finished.Fresh how) =
    HasEnded g point by came true how old new disk now_disk store now_store
EndsSo g point by came old new disk now_disk store now_store finished.Stale =
    HasEnded g point by came false recorded.Nothing old new disk now_disk store now_store
EndsSo g point by came old new disk now_disk store now_store (finished.Strange kept back) = IsStrange g point by came kept back old new
