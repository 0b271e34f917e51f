-- What a core keeps as a job comes back.
use Rattle.std.proofs.Common.{◌≡◌, ℕ, ◌==◌, ◌&&◌, ◌||◌, Bool, true, false, not, nat_lt, count_by, List, [], ◌∷◌, ◌++◌, length, Option, Some, None, refl, sym, ap, subst, ◌∙◌}
use Rattle.std.specs.Option.{ForSome, option_map}
use Rattle.std.proofs.lemmas.Bool.{and_from, and_parts, eq-eqb, eqb-true}
use Rattle.hall_lock.specs.declared.By.{By}
use Rattle.mat_tree.specs.Parts.{Part}
use Rattle.mat_model.specs.declared.answers.Recorded.{Recorded}
use Rattle.mat_model.specs.declared.answers.Recorded.TheVariants as recorded
use Rattle.mat_model.specs.declared.book.Book.{Book}
use Rattle.mat_model.specs.declared.book.Row.{Row}
use Rattle.mat_model.specs.declared.entries.Entry.{Entry}
use Rattle.mat_model.specs.declared.entries.Event.TheVariants as event
use Rattle.mat_model.specs.declared.entries.Outcome.{Outcome}
use Rattle.mat_model.specs.declared.entries.Outcome.TheVariants as outcome
use Rattle.mat_model.specs.declared.entries.Task.{Task}
use Rattle.mat_model.specs.declared.entries.Task.TheVariants as task
use Rattle.mat_model.specs.History.{Point, opened}
use Rattle.mat_model.specs.Legal.{IsFaultOf, IsLegalEntry, IsRecordedAs, end_of_time, is_of, may_end, may_end_by, may_fault_job, note_of, note_of_outcome, note_recorded}
use Rattle.mat_model.specs.Legal.{is_made as made_event}
use Rattle.mat_model.specs.WorkState.{Job, Lent}
use Rattle.model_laws.specs.PointRules.{IsPoint}
use Rattle.model_laws.specs.RowRules.{served_at}
use Rattle.model_laws.proofs.LegalLemmas.{after_all-push, history-all}
use Rattle.region_port.specs.declared.port.Region.{Ghosts as RegionGhosts}
use Rattle.job_run.specs.declared.job.Done.{Done}
use Rattle.core_laws.specs.Ends.{IsReadPart}
use Rattle.core_devices.specs.Gives.{content_of, rough_of}
use Rattle.core_devices.specs.Removals.{IsStoreNote}
use Rattle.core_devices.specs.Told.{ToldDisk, ToldPart, ToldStore}
use Rattle.mat_core.specs.Books.{StandFor}
use Rattle.mat_core.specs.Cores.{IsCore, IsSeen, IsSound, MaySpeak, Seen, point_in, seen_of}
use Rattle.mat_core.specs.Ending.{IsRecordedFor, is_fresh, is_made, reply_ended}
use Rattle.mat_core.specs.Ends.{EndsSo, HasEnded, end_entry}
use Rattle.mat_core.specs.EndsTold.{EndsTold, IsReadBack, ReturnsRead, TellsEnded}
use Rattle.mat_core.specs.Fitting.{back_of, has_card, has_parts, same_task}
use Rattle.mat_core.specs.PutDown.{told_read}
use Rattle.mat_core.specs.declared.base.Base.{Base}
use Rattle.mat_core.specs.declared.ends.Finished.{Finished}
use Rattle.mat_core.specs.declared.ends.Finished.TheVariants as finished
use Rattle.mat_core.specs.declared.parts.Parts.{Parts}
use Rattle.mat_core.proofs.BackLemmas.{stale_nothing}
use Rattle.mat_core.proofs.CoreKeeps.{any_note_apart, any_note_within}
use Rattle.mat_core.proofs.CoreLemmas.{seen_is, seen_point}
use Rattle.mat_core.proofs.EndsGoals.{end_replied}
use Rattle.mat_core.proofs.EndsLemmas.{ends_so}
use Rattle.mat_core.proofs.EventLemmas.{seen_ended}
use Rattle.mat_core.proofs.FitLemmas.{same_task-eq}

-- the note of a reply to an end is the one with which its row was recorded
ended_note : (fresh : Bool) (how : Recorded) → (fresh ≡ false → how ≡ recorded.Nothing) → note_of (reply_ended fresh how) ≡ note_recorded how
ended_note true how stale = refl
ended_note false how stale = sym (ap note_recorded (stale refl))

-- what counts is recorded exactly where a row was made
made_same : (number : ℕ) (out : Outcome) → made_event (event.Done number out) ≡ is_made out
made_same number outcome.Made = refl
made_same number outcome.Wiped = refl
made_same number (outcome.Missing digest) = refl
made_same number (outcome.Corrupt wanted found) = refl
made_same number (outcome.Fault note) = refl
made_same number outcome.NoMemory = refl

wipe_unmade : (path : List (List ℕ)) (out : Outcome) → may_end (task.Wipe path) out ≡ true → is_made out ≡ false
wipe_unmade path outcome.Made may = sym may
wipe_unmade path outcome.Wiped may = refl
wipe_unmade path (outcome.Missing digest) may = refl
wipe_unmade path (outcome.Corrupt wanted found) may = refl
wipe_unmade path (outcome.Fault note) may = refl
wipe_unmade path outcome.NoMemory may = refl

recorded_so : (fresh : Bool) (how : Recorded) (begun : Task) (out : Outcome) (rows : List Row) (number : ℕ) → may_end begun out ≡ true →
    fresh ≡ is_fresh begun rows → IsRecordedFor begun out rows how → IsRecordedAs (event.Done number out) (reply_ended fresh how)
recorded_so false how begun out rows number may is records = tt
recorded_so true how (task.Make path stamp) out rows number may is records =
    records ∙ ap (λ b. not (b && is_made out)) (sym is) ∙ ap not (sym (made_same number out))
recorded_so true how (task.Wipe path) out rows number may is records =
    records ∙ ap not (sym (made_same number out ∙ wipe_unmade path out may))

-- where the end doesn't count, nothing was recorded
stale_so : (begun : Task) (out : Outcome) (rows : List Row) (how : Recorded) (fresh : Bool) → fresh ≡ is_fresh begun rows → IsRecordedFor begun out rows how →
    fresh ≡ false → how ≡ recorded.Nothing
stale_so begun out rows how fresh is records none = stale_nothing begun out rows how records (sym is ∙ none)

-- the part that a job read is as it was, where it came back
read_back : (job : Job) (part : Option ToldPart) (May : ℕ → Type 0) → ((lent : Lent) → job.lent ≡ Some lent → May lent.stamp → IsReadBack lent part) →
    (lent : Lent) → job.lent ≡ Some lent → May lent.stamp → ForSome (content_of part) (λ (p : Part). IsReadPart lent p (rough_of part))
read_back job None May each lent some may = λ p told. absurd cc
read_back job (Some part) May each lent some may = each lent some may

module _ {D K R : Type 0} (g : RegionGhosts R) (told : D → ToldDisk) (stored : K → ToldStore) (old new : Parts D K) (by : By) (came : Done R g)
    (core : IsCore told stored old) (numbered : by.number ≡ count_by (is_of by.caller) old.history.items)
    (returns : ReturnsRead g told stored (seen_of old) by.caller came) where
  abbrev the_point : Point
  the_point = point_in (seen_of old)

  the_rules : IsPoint the_point
  the_rules = seen_point told stored (seen_of old) core.seen

  module _ (fresh : Bool) (how : Recorded)
      (is : HasEnded g the_point by came fresh how old new (told old.disk) (told new.disk) (stored old.keeper) (stored new.keeper)) where
    abbrev the_entry : Entry
    the_entry = end_entry by the_point came fresh how

    abbrev the_job : Job
    the_job = is.ended.job

    -- the caller began it, and it may end so
    card_is : ((the_job.caller == by.caller) ≡ true) × (same_task the_job.task came.card.task ≡ true)
    card_is = and_parts (the_job.caller == by.caller) (same_task the_job.task came.card.task)
        (and_parts (has_card by.caller (back_of came) the_job) (has_parts the_point.book.rows (back_of came) the_job) is.ended.fits).0

    may_so : may_end the_job.task came.outcome ≡ true
    may_so = subst (λ t. may_end t came.outcome ≡ true) (sym (same_task-eq the_job.task came.card.task card_is.1)) (ends_so came.card.task came.outcome came.ends)

    note_is : note_of (reply_ended fresh how) ≡ note_recorded how
    note_is = ended_note fresh how (stale_so the_job.task came.outcome the_point.book.rows how fresh is.ended.counts is.ended.records)

    store_note : IsStoreNote (stored old.keeper).faults (stored new.keeper).faults (note_of (reply_ended fresh how))
    store_note = subst (IsStoreNote (stored old.keeper).faults (stored new.keeper).faults) (sym note_is) is.ended.note

    the_legal : IsLegalEntry old.base.limits the_point the_entry
    the_legal = record {
      follows = record {
        reply = subst (λ b. reply_ended b how ≡ (served_at the_point (end_entry by the_point came b how)).reply) (sym is.ended.counts)
            (end_replied the_point by came.card.job came.outcome how the_job is.ended.runs is.ended.records);
        moment = sym is.moment ∙ ap (λ (b : Book). b.now) is.stands.book;
        number = numbered ∙ ap (count_by (is_of by.caller)) (sym (history-all (opened old.base.opening.value) old.history.items));
        order = subst (λ o. may_end_by o by.caller came.outcome ≡ true) (sym is.ended.runs)
            (and_from (the_job.caller == by.caller) (may_end the_job.task came.outcome) card_is.0 may_so);
      };
      room = refl;
      recorded = recorded_so fresh how the_job.task came.outcome the_point.book.rows came.card.job may_so is.ended.counts is.ended.records;
      notes = any_note_apart the_point.history (stored old.keeper).faults (stored new.keeper).faults (told old.disk).faults (note_of (reply_ended fresh how))
          core.seen.devices.counted is.ended.faults store_note;
      faulted = subst (λ o. IsFaultOf (may_fault_job o) (note_of_outcome came.outcome)) (sym is.ended.runs) is.ended.faulted;
      askable = tt;
      time = ap (λ b. b || nat_lt the_point.book.now end_of_time) (eq-eqb the_point.book.now the_point.book.now refl);
    }

    abbrev seen_behind : Seen D K
    seen_behind = record { base = old.base; history = old.history.items ++ the_entry ∷ []; disk = new.disk; keeper = new.keeper }

    same_seen : seen_of new ≡ seen_behind
    same_seen = seen_is new seen_behind is.same.base is.history refl refl

    kept_seen : IsSeen told stored seen_behind
    kept_seen =
        seen_ended told stored (seen_of old) core.seen the_entry the_legal came.card.job came.outcome the_job is.ended.its.content
        (content_of (option_map (told_read g) came.loan)) is.ended.its.rough (rough_of (option_map (told_read g) came.loan)) new.disk new.keeper refl
        is.ended.runs is.ended.back is.ended.ended
        (read_back the_job (option_map (told_read g) came.loan)
        (MaySpeak (length old.base.opening.value.rows) old.base.check
        (IsSound old.base.identity (told old.base.disk.value) (stored old.base.keeper.value)))
        (λ lent some may. returns the_job lent is.ended.runs (eqb-true the_job.caller by.caller card_is.0) some may))
        (is.rows core.seen.devices.store) is.ended.faults
        (any_note_within (stored old.keeper).faults (stored new.keeper).faults (note_of (reply_ended fresh how)) store_note) is.ended.risen

    -- a core keeps its rules as a job ends
    core_behind : IsCore told stored new
    core_behind = record {
      seen = subst (IsSeen told stored) (sym same_seen) kept_seen;
      stands = subst (StandFor new)
          (sym (ap point_in same_seen ∙ after_all-push (opened old.base.opening.value) old.history.items the_entry)) is.stands;
      reserves = is.reserves;
      lost = is.same.lost ∙ core.lost ∙ ap (λ (b : Base D K). b.opening.value.lost) (sym is.same.base);
      ready = is.ready;
    }

    tells_ended : TellsEnded g by told stored came fresh how (seen_of old) (seen_of new)
    tells_ended = record { ended = is.ended; history = is.history }

  -- a core keeps its rules as a job comes back, whatever that answers
  pub core_ended : (result : Finished R g) →
      EndsSo g the_point by came old new (told old.disk) (told new.disk) (stored old.keeper) (stored new.keeper) result → IsCore told stored new
  core_ended (finished.Fresh how) is = core_behind true how is
  core_ended finished.Stale is = core_behind false recorded.Nothing is
  core_ended (finished.Strange kept back) is = subst (IsCore told stored) (sym is.same) core

  -- what contracts see
  pub ends_told : (result : Finished R g) →
      EndsSo g the_point by came old new (told old.disk) (told new.disk) (stored old.keeper) (stored new.keeper) result →
      EndsTold g by told stored came (seen_of old) (seen_of new) result
  ends_told (finished.Fresh how) is = tells_ended true how is
  ends_told finished.Stale is = tells_ended false recorded.Nothing is
  ends_told (finished.Strange kept back) is = record { strange = is.strange; kept = is.kept; back = is.back; same = ap seen_of is.same }

  -- what a core began with stays
  pub done_keeps_base : (result : Finished R g) →
      EndsSo g the_point by came old new (told old.disk) (told new.disk) (stored old.keeper) (stored new.keeper) result → new.base ≡ old.base
  done_keeps_base (finished.Fresh how) is = is.same.base
  done_keeps_base finished.Stale is = is.same.base
  done_keeps_base (finished.Strange kept back) is = ap (λ (p : Parts D K). p.base) is.same
