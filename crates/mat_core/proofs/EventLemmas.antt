-- What a core keeps as jobs begin and end.
use Rattle.std.proofs.Common.{◌≡◌, ℕ, ◌≤◌, Bool, true, inr, List, [], ◌∷◌, ◌++◌, Option, Some, None, refl, sym, ap, subst, ◌∙◌, le_refl, length}
use Rattle.std.specs.Option.{ForSome, option_map}
use Rattle.mat_tree.specs.Parts.{Part, replaced, without}
use Rattle.mat_model.specs.declared.answers.FaultNote.{FaultNote}
use Rattle.mat_model.specs.declared.answers.Reply.{Reply}
use Rattle.mat_model.specs.declared.answers.Reply.TheVariants as reply
use Rattle.mat_model.specs.declared.entries.Entry.{Entry}
use Rattle.mat_model.specs.declared.entries.Event.{Event}
use Rattle.mat_model.specs.declared.entries.Event.TheVariants as event
use Rattle.mat_model.specs.declared.entries.Outcome.{Outcome}
use Rattle.mat_model.specs.declared.entries.Task.{Task}
use Rattle.mat_model.specs.declared.entries.Task.TheVariants as task
use Rattle.mat_model.specs.History.{Point, after, answer, next_number, opened, refusal_note}
use Rattle.mat_model.specs.Kept.{overlaps_kept}
use Rattle.mat_model.specs.Legal.{IsLegalEntry, IsReplied, IsRecorded, note_of, note_of_end}
use Rattle.mat_model.specs.WorkState.{Job, Lent, WorkState, path_of_task, running, started}
use Rattle.model_laws.specs.PointRules.{IsPoint}
use Rattle.model_laws.specs.RowRules.{served_at}
use Rattle.model_laws.specs.StoredRules.{path_of_job}
use Rattle.model_laws.specs.WorkRules.{claimed_by_part, loans_of}
use Rattle.region_port.specs.Calls.{Paths, with_inner}
use Rattle.keep_port.specs.Rows.{remove_all}
use Rattle.keep_port.specs.declared.row.RawRow.{RawRow}
use Rattle.core_laws.specs.DiskRules.{IsDisk, IsTiedDisk, less_part}
use Rattle.core_laws.specs.Ends.{IsReadPart, with_job}
use Rattle.core_laws.specs.Loans.{AreLoans, given_back}
use Rattle.core_laws.specs.Places.{IsSameBelow}
use Rattle.core_laws.specs.Stored.{AreDropped, HasDiskRisen, IsNoteWithin, IsStore, leaves_kept}
use Rattle.core_laws.specs.Whole.{Regions, with_part}
use Rattle.core_laws.proofs.BeginLemmas.{begin_refused, begin_work, refused_jobs}
use Rattle.core_laws.proofs.BeginMoves.{begin_disk, begun_tied, refused_disk, refused_tied}
use Rattle.core_laws.proofs.CountLemmas.{entry_counted, more_counted}
use Rattle.core_laws.proofs.EndMoves.{end_disk, end_tied_disk}
use Rattle.core_laws.proofs.LoanLemmas.{begin_loans, end_loans}
use Rattle.core_laws.proofs.PointMoves.{end_jobs}
use Rattle.core_laws.proofs.RuleMoves.{same_disk, same_tied}
use Rattle.core_laws.proofs.StoreMoves.{begin_store, entry_store}
use Rattle.model_laws.proofs.LegalLemmas.{after_all-push, each-push}
use Rattle.model_laws.proofs.PointLemmas.{entry_point}
use Rattle.mat_core.specs.Cores.{AreDevices, IsSeen, IsSound, MaySpeak, MaySpeakFor, Seen, each_stamp, point_in}
use Rattle.core_devices.specs.Told.{ToldDisk, ToldStore}
use Rattle.mat_core.proofs.CoreLemmas.{seen_point}
use Rattle.core_devices.specs.Events.{AreSameParts, HasAgain, HasBack, HasLent, IsEndedTold, read_at, with_read}

-- a fact of what is told, where it is told, is one of what comes of it
for_mapped : {A B : Type 0} (P : A → Type 0) (Q : B → Type 0) (f : A → B) → ((a : A) → P a → Q (f a)) → (o : Option A) → ForSome o P →
    ForSome (option_map f o) Q
for_mapped P Q f more None is x told = absurd cc
for_mapped P Q f more (Some a) is x told = let e : f a ≡ x = cc in subst Q e (more a (is a refl))

-- ---- a begin

-- a job that began is behind the others
begun_jobs : (number caller : ℕ) (begun : Task) (point : Point) → (started number caller begun point.book.rows point.work).jobs
    ≡ point.work.jobs ++ record { number = number; caller = caller; task = begun; lent = read_at point begun } ∷ []
begun_jobs number caller (task.Make path stamp) point = refl
begun_jobs number caller (task.Wipe path) point = refl

module _ (identity first : ℕ) (check : Bool) (Sound : Type 0) (point : Point) (entry : Entry) (begun : Task) (old new : ToldDisk)
    (before later : ToldStore) (paths : List (List (List ℕ))) (rules : IsPoint point) (behind : IsPoint (after point entry))
    (begins : entry.event ≡ event.Begin begun) (starts : entry.reply ≡ reply.Started) (lends : HasLent begun (read_at point begun) old new)
    (drops : (rows : List RawRow) → IsStore identity point.kept rows → AreDropped (overlaps_kept (path_of_task begun)) point.kept paths)
    (removes : later.rows ≡ option_map (λ rows. remove_all rows paths) before.rows) (faults : before.faults ≤ later.faults)
    (devices : AreDevices identity first check Sound point old before) where
  begin_started : refusal_note (served_at point entry).reply ≡ None
  begin_started =
      ap (λ e. refusal_note (answer point entry.now e entry.reply).reply) begins
      ∙ ap (λ r. refusal_note (answer point entry.now (event.Begin begun) r).reply) starts

  begun_loans : AreLoans (after point entry).work.jobs new.lent
  begun_loans =
      subst (λ l. AreLoans (after point entry).work.jobs l) (sym lends.lent)
      (subst (λ (jobs : List Job). AreLoans jobs (old.lent ++ path_of_task begun ∷ claimed_by_part (read_at point begun)))
      (sym (ap (λ (w : WorkState). w.jobs) (begin_work point entry begun begins begin_started)
      ∙ begun_jobs (next_number point) entry.by.caller begun point))
      (begin_loans point.work.jobs
      (record { number = next_number point; caller = entry.by.caller; task = begun; lent = read_at point begun }) old.lent devices.loans))

  abbrev taken : Part → Part
  taken content = less_part (read_at point begun) (without (path_of_task begun) content)

  -- the devices keep their rules as a job begins
  pub begun_devices : AreDevices identity first check Sound (after point entry) new later
  begun_devices = record {
    loans = begun_loans;
    tied = subst (λ o. ForSome o Q) (sym lends.content) (for_mapped P Q taken (λ content is spoken may.
        subst (λ l. IsTiedDisk spoken (after point entry) l (taken content) new.rough) (sym lends.lent)
        (subst (λ r. IsTiedDisk spoken (after point entry) (old.lent ++ path_of_task begun ∷ claimed_by_part (read_at point begun)) (taken content) r)
        (sym lends.rough)
        (begun_tied spoken point entry begun old.lent content old.rough begins starts behind.work (is spoken may))))
        old.content devices.tied);
    sound = λ sound. subst (λ o. ForSome o S) (sym lends.content) (for_mapped R S taken (λ content is.
        subst (λ l. IsDisk each_stamp (after point entry) l (taken content) new.rough) (sym lends.lent)
        (subst (λ r. IsDisk each_stamp (after point entry) (old.lent ++ path_of_task begun ∷ claimed_by_part (read_at point begun)) (taken content) r)
        (sym lends.rough)
        (begin_disk each_stamp point entry begun old.lent content old.rough rules.kept.order begins starts behind.work is)))
        old.content (devices.sound sound));
    store = subst (λ o. ForSome o (IsStore identity (after point entry).kept)) (sym removes)
        (for_mapped (IsStore identity point.kept) (IsStore identity (after point entry).kept) (λ rows. remove_all rows paths)
        (λ rows is. begin_store identity point entry begun rows paths begins begin_started (drops rows is) is) before.rows devices.store);
    counted = entry_counted point.history entry before.faults old.faults later.faults new.faults faults lends.faults
        (subst (λ (r : Reply). IsNoteWithin later.faults (note_of r)) (sym starts) tt)
        (subst (λ (e : Event). HasDiskRisen new.faults (note_of_end e)) (sym begins) tt) devices.counted;
  }
    where
      P : Part → Type 0
      P content = (spoken : ℕ → Bool) → MaySpeakFor first check Sound spoken → IsTiedDisk spoken point old.lent content old.rough

      Q : Part → Type 0
      Q content = (spoken : ℕ → Bool) → MaySpeakFor first check Sound spoken → IsTiedDisk spoken (after point entry) new.lent content new.rough

      R : Part → Type 0
      R content = IsDisk each_stamp point old.lent content old.rough

      S : Part → Type 0
      S content = IsDisk each_stamp (after point entry) new.lent content new.rough

-- ---- a begin that wasn't made

-- a fact of what is told holds of what is told again
for_again : (P : Part → Paths → Type 0) → ((a b : Part) (r s : Paths) → IsSameBelow [] a r b s → P a r → P b s) → (old : Option Part) (before : Paths)
    (new : Option Part) (later : Paths) → AreSameParts old before new later → ForSome old (λ a. P a before) → ForSome new (λ b. P b later)
for_again P more old before None later same is x told = absurd cc
for_again P more None before (Some b) later same is x told = absurd same
for_again P more (Some a) before (Some b) later same is x told =
    let e : b ≡ x = cc in subst (λ (c : Part). P c later) e (more a b before later same (is a refl))

module _ (identity first : ℕ) (check : Bool) (Sound : Type 0) (point : Point) (old new : ToldDisk) (before later : ToldStore)
    (again : HasAgain old new) (same : later.rows ≡ before.rows) (faults : before.faults ≤ later.faults)
    (devices : AreDevices identity first check Sound point old before) where
  -- the devices keep their rules where parts were taken and given back as they were, and the state store wasn't changed
  pub again_devices : AreDevices identity first check Sound point new later
  again_devices = record {
    loans = subst (λ l. AreLoans point.work.jobs l) (sym again.lent) devices.loans;
    tied = subst (λ l. ForSome new.content (λ content. (spoken : ℕ → Bool) → MaySpeakFor first check Sound spoken →
        IsTiedDisk spoken point l content new.rough)) (sym again.lent)
        (for_again (λ content rough. (spoken : ℕ → Bool) → MaySpeakFor first check Sound spoken → IsTiedDisk spoken point old.lent content rough)
        (λ a b r s is tied spoken may. same_tied spoken point old.lent a b r s is (tied spoken may)) old.content old.rough new.content new.rough
        again.parts devices.tied);
    sound = λ sound. subst (λ l. ForSome new.content (λ content. IsDisk each_stamp point l content new.rough)) (sym again.lent)
        (for_again (λ content rough. IsDisk each_stamp point old.lent content rough)
        (λ a b r s is disk. same_disk each_stamp point old.lent a b r s is disk) old.content old.rough new.content new.rough again.parts
        (devices.sound sound));
    store = subst (λ o. ForSome o (IsStore identity point.kept)) (sym same) devices.store;
    counted = more_counted point.history before.faults old.faults later.faults new.faults faults again.faults devices.counted;
  }

module _ (identity first : ℕ) (check : Bool) (Sound : Type 0) (point : Point) (entry : Entry) (begun : Task) (note : FaultNote) (told : ToldDisk)
    (store : ToldStore) (replied : IsReplied point entry) (begins : entry.event ≡ event.Begin begun) (refuses : entry.reply ≡ reply.Refused note)
    (within : note.after ≤ store.faults) (devices : AreDevices identity first check Sound point told store) where
  refusal_said : refusal_note (served_at point entry).reply ≡ Some note
  refusal_said = ap refusal_note (sym replied ∙ refuses)

  -- they keep them as a begin is refused, which calls no device any more
  pub refused_devices : AreDevices identity first check Sound (after point entry) told store
  refused_devices = record {
    loans = subst (λ (jobs : List Job). AreLoans jobs told.lent)
        (sym (ap (λ (w : WorkState). w.jobs) (begin_refused point entry begun note begins refusal_said) ∙ refused_jobs begun point.work)) devices.loans;
    tied = λ content is spoken may.
        refused_tied spoken point entry begun note told.lent content told.rough replied begins refuses (devices.tied content is spoken may);
    sound = λ sound content is.
        refused_disk each_stamp point entry begun note told.lent content told.rough replied begins refuses (devices.sound sound content is);
    store = λ rows is. entry_store identity point entry rows
        (subst (λ (r : Reply). leaves_kept r ≡ true) (sym (sym replied ∙ refuses)) refl) (devices.store rows is);
    counted = entry_counted point.history entry store.faults told.faults store.faults told.faults (le_refl store.faults) (le_refl told.faults)
        (subst (λ (r : Reply). IsNoteWithin store.faults (note_of r)) (sym refuses) within)
        (subst (λ (e : Event). HasDiskRisen told.faults (note_of_end e)) (sym begins) tt) devices.counted;
  }

-- ---- an end

-- what is told once the parts of a job came back, where it is told, comes of what was told before, and of what the parts tell
for_back : (job : Job) (part inner old : Option Part) (Q : Part → Type 0) → ((content made : Part) (regions : Regions) → old ≡ Some content →
    inner ≡ Some made → ((read : Lent) → job.lent ≡ Some read → part ≡ Some (regions read.path)) → Q (with_job job made regions content)) →
    ForSome (with_read job.lent part (with_inner (path_of_job job) inner old)) Q
for_back job part inner old Q each x told = by job.lent refl part inner old told each
  where
    by : (lent : Option Lent) → job.lent ≡ lent → (part inner old : Option Part) →
        with_read lent part (with_inner (path_of_job job) inner old) ≡ Some x → ((content made : Part) (regions : Regions) → old ≡ Some content →
        inner ≡ Some made → ((read : Lent) → job.lent ≡ Some read → part ≡ Some (regions read.path)) → Q (with_job job made regions content)) → Q x
    by None none part (Some made) (Some content) is using =
        let e : replaced (path_of_job job) made content ≡ x = cc in
        subst Q (ap (λ l. with_part l (λ path. made) (replaced (path_of_job job) made content)) none ∙ e)
        (using content made (λ path. made) refl refl (λ read lies. absurd (let never : None ≡ Some read = sym none ∙ lies in cc)))
    by None none part None old is using = absurd cc
    by None none part (Some made) None is using = absurd cc
    by (Some read) some (Some one) (Some made) (Some content) is using =
        let e : replaced read.path one (replaced (path_of_job job) made content) ≡ x = cc in
        subst Q (ap (λ l. with_part l (λ path. one) (replaced (path_of_job job) made content)) some ∙ e)
        (using content made (λ path. one) refl refl (λ other lies. refl))
    by (Some read) some None inner old is using = absurd cc
    by (Some read) some (Some one) None old is using = absurd cc
    by (Some read) some (Some one) (Some made) None is using = absurd cc

module _ (identity first : ℕ) (check : Bool) (Sound : Type 0) (point : Point) (entry : Entry) (number : ℕ) (out : Outcome) (job : Job)
    (inner part : Option Part) (its of_part : Paths) (old new : ToldDisk) (before later : ToldStore) (rules : IsPoint point)
    (behind : IsPoint (after point entry)) (replied : IsReplied point entry) (recorded : IsRecorded point entry)
    (ends : entry.event ≡ event.Done number out) (runs : running number point.work ≡ Some job)
    (back : HasBack job inner its part of_part old new) (ended : IsEndedTold job.task out point.book.rows inner its)
    (read : (one : Lent) → job.lent ≡ Some one → MaySpeak first check Sound one.stamp → ForSome part (λ (p : Part). IsReadPart one p of_part))
    (stored : ForSome later.rows (IsStore identity (after point entry).kept)) (faults : before.faults ≤ later.faults)
    (noted : IsNoteWithin later.faults (note_of entry.reply)) (risen : HasDiskRisen new.faults (note_of_end entry.event))
    (devices : AreDevices identity first check Sound point old before) where
  -- the devices keep their rules as a job ends
  pub ended_devices : AreDevices identity first check Sound (after point entry) new later
  ended_devices = record {
    loans = subst (λ l. AreLoans (after point entry).work.jobs l) (sym back.lent)
        (subst (λ (jobs : List Job). AreLoans jobs (given_back (loans_of job) old.lent)) (sym (end_jobs point entry number out job ends runs))
        (end_loans (next_number point) number point.book.rows point.work job old.lent rules.work runs devices.loans));
    tied = subst (λ o. ForSome o Q) (sym back.content) (for_back job part inner old.content Q (λ content made regions is was parts spoken may.
        subst (λ l. IsTiedDisk spoken (after point entry) l (with_job job made regions content) new.rough) (sym back.lent)
        (subst (λ r. IsTiedDisk spoken (after point entry) (given_back (loans_of job) old.lent) (with_job job made regions content) r) (sym back.rough)
        (end_tied_disk spoken point entry number out job old.lent regions made content its of_part old.rough rules.work ends runs (ended made was)
        (λ one lent so. read one lent (may one.stamp so) (regions one.path) (parts one lent)) (devices.tied content is spoken may)))));
    sound = λ sound. subst (λ o. ForSome o S) (sym back.content) (for_back job part inner old.content S (λ content made regions is was parts.
        subst (λ l. IsDisk each_stamp (after point entry) l (with_job job made regions content) new.rough) (sym back.lent)
        (subst (λ r. IsDisk each_stamp (after point entry) (given_back (loans_of job) old.lent) (with_job job made regions content) r) (sym back.rough)
        (end_disk each_stamp point entry number out job old.lent regions made content its of_part old.rough rules.work rules.kept replied recorded ends
        runs behind.work (λ row among. refl) (ended made was) (λ one lent. refl)
        (λ one lent so. read one lent (inr (inr sound)) (regions one.path) (parts one lent)) (devices.sound sound content is)))));
    store = stored;
    counted = entry_counted point.history entry before.faults old.faults later.faults new.faults faults back.faults noted risen devices.counted;
  }
    where
      Q : Part → Type 0
      Q content = (spoken : ℕ → Bool) → MaySpeakFor first check Sound spoken → IsTiedDisk spoken (after point entry) new.lent content new.rough

      S : Part → Type 0
      S content = IsDisk each_stamp (after point entry) new.lent content new.rough

-- ---- cores

module _ {D K : Type 0} (told : D → ToldDisk) (stored : K → ToldStore) (seen : Seen D K) (is : IsSeen told stored seen) where
  abbrev pub base_sound : Type 0
  base_sound = IsSound seen.base.identity (told seen.base.disk.value) (stored seen.base.keeper.value)

  -- a core keeps its rules once an entry is there behind which the devices keep theirs
  pub seen_after : (entry : Entry) (disk : D) (keeper : K) → IsLegalEntry seen.base.limits (point_in seen) entry →
      AreDevices seen.base.identity (length seen.base.opening.value.rows) seen.base.check base_sound (after (point_in seen) entry) (told disk)
      (stored keeper) → IsSeen told stored (record seen { history = seen.history ++ entry ∷ []; disk = disk; keeper = keeper })
  seen_after entry disk keeper legal devices = record {
    limits = is.limits;
    opening = is.opening;
    within = is.within;
    legal = each-push (IsLegalEntry seen.base.limits) (opened seen.base.opening.value) seen.history entry is.legal legal;
    devices = subst (λ (p : Point). AreDevices seen.base.identity (length seen.base.opening.value.rows) seen.base.check base_sound p (told disk)
        (stored keeper)) (sym (after_all-push (opened seen.base.opening.value) seen.history entry)) devices;
  }

  -- so does one whose devices have what they had
  pub seen_again : (disk : D) (keeper : K) → HasAgain (told seen.disk) (told disk) → (stored keeper).rows ≡ (stored seen.keeper).rows →
      (stored seen.keeper).faults ≤ (stored keeper).faults → IsSeen told stored (record seen { disk = disk; keeper = keeper })
  seen_again disk keeper again same faults = record {
    limits = is.limits;
    opening = is.opening;
    within = is.within;
    legal = is.legal;
    devices = again_devices seen.base.identity (length seen.base.opening.value.rows) seen.base.check base_sound (point_in seen) (told seen.disk)
        (told disk) (stored seen.keeper) (stored keeper) again same faults is.devices;
  }

  module _ (entry : Entry) (legal : IsLegalEntry seen.base.limits (point_in seen) entry) where
    behind : IsPoint (after (point_in seen) entry)
    behind = entry_point (point_in seen) entry (legal.follows.order, legal.askable) (seen_point told stored seen is)

    -- a core keeps its rules as a job begins
    pub seen_begun : (begun : Task) (disk : D) (keeper : K) (paths : List (List (List ℕ))) → entry.event ≡ event.Begin begun →
        entry.reply ≡ reply.Started → HasLent begun (read_at (point_in seen) begun) (told seen.disk) (told disk) →
        ((rows : List RawRow) → IsStore seen.base.identity (point_in seen).kept rows → AreDropped (overlaps_kept (path_of_task begun)) (point_in seen).kept paths) →
        (stored keeper).rows ≡ option_map (λ rows. remove_all rows paths) (stored seen.keeper).rows →
        (stored seen.keeper).faults ≤ (stored keeper).faults →
        IsSeen told stored (record seen { history = seen.history ++ entry ∷ []; disk = disk; keeper = keeper })
    seen_begun begun disk keeper paths begins starts lends drops removes faults =
        seen_after entry disk keeper legal
        (begun_devices seen.base.identity (length seen.base.opening.value.rows) seen.base.check base_sound (point_in seen) entry begun
        (told seen.disk) (told disk) (stored seen.keeper) (stored keeper) paths (seen_point told stored seen is) behind begins starts lends drops
        removes faults is.devices)

    -- and as a begin is refused, once what was taken is back
    pub seen_refused : (begun : Task) (note : FaultNote) (disk : D) (keeper : K) → entry.event ≡ event.Begin begun →
        entry.reply ≡ reply.Refused note → HasAgain (told seen.disk) (told disk) → (stored keeper).rows ≡ (stored seen.keeper).rows →
        (stored seen.keeper).faults ≤ (stored keeper).faults → note.after ≤ (stored keeper).faults →
        IsSeen told stored (record seen { history = seen.history ++ entry ∷ []; disk = disk; keeper = keeper })
    seen_refused begun note disk keeper begins refuses again same faults within =
        seen_after entry disk keeper legal
        (refused_devices seen.base.identity (length seen.base.opening.value.rows) seen.base.check base_sound (point_in seen) entry begun note
        (told disk) (stored keeper) legal.follows.reply begins refuses within (seen_again disk keeper again same faults).devices)

    -- and as a job ends, once its parts are back and what it records is stored
    pub seen_ended : (number : ℕ) (out : Outcome) (job : Job) (inner part : Option Part) (its of_part : Paths) (disk : D) (keeper : K) →
        entry.event ≡ event.Done number out → running number (point_in seen).work ≡ Some job →
        HasBack job inner its part of_part (told seen.disk) (told disk) → IsEndedTold job.task out (point_in seen).book.rows inner its →
        ((one : Lent) → job.lent ≡ Some one → MaySpeak (length seen.base.opening.value.rows) seen.base.check base_sound one.stamp →
        ForSome part (λ (p : Part). IsReadPart one p of_part)) →
        ForSome (stored keeper).rows (IsStore seen.base.identity (after (point_in seen) entry).kept) →
        (stored seen.keeper).faults ≤ (stored keeper).faults → IsNoteWithin (stored keeper).faults (note_of entry.reply) →
        HasDiskRisen (told disk).faults (note_of_end entry.event) →
        IsSeen told stored (record seen { history = seen.history ++ entry ∷ []; disk = disk; keeper = keeper })
    seen_ended number out job inner part its of_part disk keeper ends runs back ended read kept faults noted risen =
        seen_after entry disk keeper legal
        (ended_devices seen.base.identity (length seen.base.opening.value.rows) seen.base.check base_sound (point_in seen) entry number out job
        inner part its of_part (told seen.disk) (told disk) (stored seen.keeper) (stored keeper) (seen_point told stored seen is) behind
        legal.follows.reply legal.recorded ends runs back ended read kept faults noted risen is.devices)
