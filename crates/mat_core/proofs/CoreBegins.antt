-- What a core keeps as a job begins, and as a begin is refused or given up.
use Rattle.std.proofs.Common.{◌≡◌, ◌≤◌, ◌+◌, ℕ, true, false, ◌||◌, cond, nat_lt, count_by, List, [], ◌∷◌, ◌++◌, map, filter, Option, Some, None, refl, sym, ap, subst, ◌∙◌, append_assoc, arith}
use Rattle.std.specs.Option.{option_map}
use Rattle.std.proofs.lemmas.Bool.{eq-eqb}
use Rattle.hall_lock.specs.declared.By.{By}
use Rattle.mat_tree.specs.Parts.{Part, without}
use Rattle.mat_model.specs.declared.answers.FaultNote.{FaultNote}
use Rattle.mat_model.specs.declared.answers.Limit.{Limit}
use Rattle.mat_model.specs.declared.answers.Limit.TheVariants as limit
use Rattle.mat_model.specs.declared.answers.Reply.{Reply}
use Rattle.mat_model.specs.declared.answers.Reply.TheVariants as reply
use Rattle.mat_model.specs.declared.entries.Entry.{Entry}
use Rattle.mat_model.specs.declared.entries.Event.TheVariants as event
use Rattle.mat_model.specs.declared.entries.Task.{Task}
use Rattle.mat_model.specs.declared.limits.Limits.{Limits}
use Rattle.mat_model.specs.Gate.{Served}
use Rattle.mat_model.specs.History.{Point, is_keeper, opened}
use Rattle.mat_model.specs.Kept.{KeptRow, overlaps_kept}
use Rattle.mat_model.specs.Legal.{IsLegalEntry, IsNoteFrom, IsNumbered, IsRecordedAs, count_behind, end_of_time, is_of, note_of}
use Rattle.mat_model.specs.Room.{spent}
use Rattle.mat_model.specs.WorkState.{Job, Lent, first_task, path_of_task}
use Rattle.model_laws.specs.KeptRules.{path_of_kept}
use Rattle.model_laws.specs.PointRules.{IsPoint}
use Rattle.model_laws.specs.RowRules.{served_at}
use Rattle.model_laws.specs.WorkRules.{claimed_by_part}
use Rattle.model_laws.proofs.LegalLemmas.{after_all-push, history-all}
use Rattle.mat_io.specs.Causes.{Rose}
use Rattle.region_port.specs.Calls.{Paths}
use Rattle.region_port.specs.declared.port.Region.{Ghosts as RegionGhosts}
use Rattle.keep_port.specs.Rows.{remove_all}
use Rattle.keep_port.specs.declared.row.RawRow.{RawRow}
use Rattle.core_laws.specs.DiskRules.{less_part, less_rough_part}
use Rattle.core_laws.specs.Loans.{AreLoans}
use Rattle.core_laws.specs.Stored.{AreCounted, AreDropped, IsStore}
use Rattle.core_laws.proofs.CountLemmas.{note_apart, rose_noted}
use Rattle.core_laws.proofs.StoreSteps.{listed_dropped}
use Rattle.kept_book.specs.Marks.{mark_of, overlaps_mark, path_of_mark}
use Rattle.job_book.specs.Jobs.{jobs_of}
use Rattle.core_devices.specs.Events.{HasLent, read_at}
use Rattle.core_devices.specs.Removals.{IsStoreCall, IsStoreNote, are_some}
use Rattle.core_devices.specs.Takes.{AreTaken, less_at, less_rough_at, listed}
use Rattle.core_devices.specs.Told.{ToldDisk, ToldPart, ToldStore}
use Rattle.mat_core.specs.Beginning.{begin_entry}
use Rattle.mat_core.specs.Begins.{BeginsSo, BeginsTold, HasStarted, IsEntered, TellsEntry, WasGivenUp, WasRefused, gone_at}
use Rattle.mat_core.specs.Books.{StandFor}
use Rattle.mat_core.specs.Cores.{IsCore, IsSeen, Seen, point_in, seen_of}
use Rattle.mat_core.specs.Orders.{gone_for}
use Rattle.mat_core.specs.Rooms.{spent_in}
use Rattle.mat_core.specs.declared.base.Base.{Base}
use Rattle.mat_core.specs.declared.begins.Begun.{Begun}
use Rattle.mat_core.specs.declared.begins.Begun.TheVariants as begun
use Rattle.mat_core.specs.declared.parts.Parts.{Parts}
use Rattle.mat_core.proofs.CoreLemmas.{seen_is, seen_point}
use Rattle.mat_core.proofs.EventLemmas.{seen_again, seen_begun, seen_refused}
use Rattle.mat_core.proofs.RefuseLemmas.{refused_served}
use Rattle.mat_core.proofs.ServeLemmas.{spent_same}

-- ---- what the devices lend

-- what a disk has without the part of a task and the one that it reads
less_both : (read : Option Lent) (path : List (List ℕ)) (content : Option Part) →
    option_map (less_at (option_map (λ (lent : Lent). lent.path) read)) (option_map (without path) content)
    ≡ option_map (λ (whole : Part). less_part read (without path whole)) content
less_both None path None = refl
less_both None path (Some whole) = refl
less_both (Some lent) path None = refl
less_both (Some lent) path (Some whole) = refl

less_rough_both : (read : Option Lent) (rough : Paths) → less_rough_at (option_map (λ (lent : Lent). lent.path) read) rough ≡ less_rough_part read rough
less_rough_both None rough = refl
less_rough_both (Some lent) rough = refl

claimed_both : (read : Option Lent) → listed (option_map (λ (lent : Lent). lent.path) read) ≡ claimed_by_part read
claimed_both None = refl
claimed_both (Some lent) = refl

-- where the parts of a task were taken, the disk has lent them
taken_lent : (begun : Task) (read : Option Lent) (old new : ToldDisk) (part : ToldPart) (other : Option ToldPart) →
    AreTaken (path_of_task begun) (option_map (λ (lent : Lent). lent.path) read) old new part other → HasLent begun read old new
taken_lent begun read old new part other taken = record {
  content = taken.read.content ∙ less_both read (path_of_task begun) old.content;
  lent = taken.read.lent ∙ ap (λ (ps : List (List (List ℕ))). (old.lent ++ path_of_task begun ∷ []) ++ ps) (claimed_both read)
      ∙ append_assoc old.lent (path_of_task begun ∷ []) (claimed_by_part read);
  rough = taken.read.rough ∙ less_rough_both read _;
  faults = let same = taken.read.faults in omega (arith, same);
  watch = taken.read.watch;
}

-- ---- the kept rows that go

-- the paths of marks that overlap a path are those of their kept rows
gone_marks : (path : List (List ℕ)) (kept : List KeptRow) →
    map path_of_mark (filter (overlaps_mark path) (map mark_of kept)) ≡ map path_of_kept (filter (overlaps_kept path) kept)
gone_marks path [] = refl
gone_marks path (one ∷ kept) =
    elim (overlaps_kept path one) as
    (λ b. map path_of_mark (cond b (mark_of one ∷ filter (overlaps_mark path) (map mark_of kept)) (filter (overlaps_mark path) (map mark_of kept)))
    ≡ map path_of_kept (cond b (one ∷ filter (overlaps_kept path) kept) (filter (overlaps_kept path) kept))) [
      | true ↦ ap (λ (ps : List (List (List ℕ))). one.path ∷ ps) (gone_marks path kept)
      | false ↦ gone_marks path kept
    ]

gone_same : {D K : Type 0} (parts : Parts D K) (point : Point) (begun : Task) → StandFor parts point → gone_for parts begun ≡ gone_at point begun
gone_same parts point begun stands =
    ap (λ ms. map path_of_mark (filter (overlaps_mark (path_of_task begun)) ms)) stands.kept ∙ gone_marks (path_of_task begun) point.kept

-- ---- the entry

-- the entry of the task that comes first is legal, where there is room for it and for its end, and its reply is the one of the definitions
begin_legal : (limits : Limits) (point : Point) (by : By) (begun : Task) (said : Reply) →
    said ≡ (served_at point (begin_entry by point.book.now begun said)).reply →
    point.book.now ≡ (served_at point (begin_entry by point.book.now begun said)).book.now →
    IsNumbered point (begin_entry by point.book.now begun said) → first_task point.work point.book ≡ Some begun →
    nat_lt limits.history (spent point + 2) ≡ false → IsRecordedAs (event.Begin begun) said →
    IsNoteFrom (count_behind 0 point.history) (note_of said) → IsLegalEntry limits point (begin_entry by point.book.now begun said)
begin_legal limits point by begun said replied still numbered first room recorded apart = record {
  follows = record { reply = replied; moment = still; number = numbered; order = first };
  room = ap (λ b. cond {A = Option Limit} b (Some limit.History) None) room;
  recorded = recorded;
  notes = apart;
  faulted = tt;
  askable = tt;
  time = ap (λ b. b || nat_lt point.book.now end_of_time) (eq-eqb point.book.now point.book.now refl);
}

-- a note of the state store's count, which rose, overlaps none of a history whose notes aren't behind it
pub store_note_apart : (history : List Entry) (before now disk : ℕ) (note : FaultNote) → AreCounted history before disk → before ≤ now →
    IsStoreNote before now (Some note) → IsNoteFrom (count_behind 0 history) (Some note)
store_note_apart history before now disk note counted risen told =
    let from : note.before ≡ before = ap (λ (n : FaultNote). n.before) told.0 in
    let upto : note.after ≡ now = ap (λ (n : FaultNote). n.after) told.0 in
    let fits = told.2 in
    note_apart history before disk note counted (omega (arith, from)) (ap (λ (n : FaultNote). is_keeper n.device) told.0)
    (rose_noted note (omega (arith, from, risen, fits)) (omega (arith, upto, fits))
    (subst (λ (n : FaultNote). Rose n.before n.after) (sym told.0) told.1))

-- ---- the core

-- the disk lends what a core's jobs have out
pub core_loans : {D K : Type 0} (told : D → ToldDisk) (stored : K → ToldStore) (parts : Parts D K) → IsCore told stored parts →
    AreLoans (jobs_of parts.jobs) (told parts.disk).lent
core_loans told stored parts core =
    subst (λ (js : List Job). AreLoans js (told parts.disk).lent) (sym core.stands.work.jobs) core.seen.devices.loans

module _ {D K : Type 0} (told : D → ToldDisk) (stored : K → ToldStore) (old new : Parts D K) (by : By) (core : IsCore told stored old) where
  abbrev the_point : Point
  the_point = point_in (seen_of old)

  the_rules : IsPoint the_point
  the_rules = seen_point told stored (seen_of old) core.seen

  -- what contracts see once an entry is there
  abbrev the_seen : Entry → Seen D K
  the_seen entry = record { base = old.base; history = old.history.items ++ entry ∷ []; disk = new.disk; keeper = new.keeper }

  -- a core keeps its rules where a begin was entered, and what contracts see of it does
  core_behind : (what : Task) (said : Reply) → IsEntered the_point by what said old new →
      IsSeen told stored (the_seen (begin_entry by the_point.book.now what said)) → IsCore told stored new
  core_behind what said is seen = record {
    seen = subst (IsSeen told stored) (sym same) seen;
    stands = subst (StandFor new)
        (sym (ap point_in same
        ∙ after_all-push (opened old.base.opening.value) old.history.items (begin_entry by the_point.book.now what said))) is.stands;
    reserves = is.reserves;
    lost = is.same.lost ∙ core.lost ∙ ap (λ (b : Base D K). b.opening.value.lost) (sym is.same.base);
    ready = is.ready core.ready;
  }
    where
      same : seen_of new ≡ the_seen (begin_entry by the_point.book.now what said)
      same = seen_is new (the_seen (begin_entry by the_point.book.now what said)) is.same.base is.history refl refl

  -- it keeps them where a begin was given up
  given_up_core : WasGivenUp old new (told old.disk) (told new.disk) (stored old.keeper) (stored new.keeper) → IsCore told stored new
  given_up_core is = record {
    seen = subst (IsSeen told stored) (sym same)
        (seen_again told stored (seen_of old) core.seen new.disk new.keeper is.again is.kept.rows is.kept.faults);
    stands = subst (λ (s : Seen D K). StandFor new (point_in s)) (sym same) (is.still.stands the_point core.stands);
    reserves = is.still.reserves;
    lost = is.still.same.lost ∙ core.lost ∙ ap (λ (b : Base D K). b.opening.value.lost) (sym is.still.same.base);
    ready = is.still.ready core.ready;
  }
    where
      same : seen_of new ≡ record { base = old.base; history = old.history.items; disk = new.disk; keeper = new.keeper }
      same = seen_is new (record { base = old.base; history = old.history.items; disk = new.disk; keeper = new.keeper }) is.still.same.base
          is.still.history refl refl

  room_is : nat_lt old.base.limits.history (spent_in old + 2) ≡ nat_lt old.base.limits.history (spent the_point + 2)
  room_is = ap (λ n. nat_lt old.base.limits.history (n + 2)) (spent_same old the_point core.stands)

  -- the kept rows that go are those that overlap the task's path
  drops : (what : Task) (rows : List RawRow) → IsStore old.base.identity the_point.kept rows →
      AreDropped (overlaps_kept (path_of_task what)) the_point.kept (gone_for old what)
  drops what rows store =
      subst (AreDropped (overlaps_kept (path_of_task what)) the_point.kept) (sym (gone_same old the_point what core.stands))
      (listed_dropped old.base.identity (overlaps_kept (path_of_task what)) the_point.kept rows the_rules.kept.order store)

  module _ (numbered : by.number ≡ count_by (is_of by.caller) old.history.items) where
    number_is : by.number ≡ count_by (is_of by.caller) the_point.history
    number_is = numbered ∙ ap (count_by (is_of by.caller)) (sym (history-all (opened old.base.opening.value) old.history.items))

    -- where a job began
    started_core : {R : Type 0} (g : RegionGhosts R) (job : Rattle.job_run.specs.Views.Seen R) →
        HasStarted g the_point by old new (told old.disk) (told new.disk) (stored old.keeper) (stored new.keeper) job → IsCore told stored new
    started_core g job is =
        core_behind is.what reply.Started is.entered
        (seen_begun told stored (seen_of old) core.seen (begin_entry by the_point.book.now is.what reply.Started)
        (begin_legal old.base.limits the_point by is.what reply.Started refl refl number_is is.entered.first (sym room_is ∙ is.entered.room) tt tt)
        is.what new.disk new.keeper (gone_for old is.what) refl refl
        (taken_lent is.what (read_at the_point is.what) (told old.disk) (told new.disk) _ _ is.begun.taken) (drops is.what) is.rows is.faults)

    -- and where a begin was refused
    refused_core : (note : FaultNote) →
        WasRefused the_point by old new (told old.disk) (told new.disk) (stored old.keeper) (stored new.keeper) note → IsCore told stored new
    refused_core note is =
        let served = refused_served the_point by is.what note the_rules is.entered.first (ap (λ (n : FaultNote). n.device) is.note.0) is.some in
        let upto : note.after ≡ (stored new.keeper).faults = ap (λ (n : FaultNote). n.after) is.note.0 in
        core_behind is.what (reply.Refused note) is.entered
        (seen_refused told stored (seen_of old) core.seen (begin_entry by the_point.book.now is.what (reply.Refused note))
        (begin_legal old.base.limits the_point by is.what (reply.Refused note) (ap (λ (s : Served). s.reply) (sym served))
        (ap (λ (s : Served). s.book.now) (sym served)) number_is is.entered.first (sym room_is ∙ is.entered.room) tt
        (store_note_apart the_point.history (stored old.keeper).faults (stored new.keeper).faults (told old.disk).faults note core.seen.devices.counted
        is.still.faults is.note))
        is.what note new.disk new.keeper refl refl is.again is.still.rows is.still.faults (omega (arith, upto)))

    -- a core keeps its rules through a begin, whatever that answers
    pub core_begun : {R : Type 0} (g : RegionGhosts R) (result : Begun R) →
        BeginsSo g the_point by old new (told old.disk) (told new.disk) (stored old.keeper) (stored new.keeper) result → IsCore told stored new
    core_begun g (begun.Started job) is = started_core g job is
    core_begun g begun.Idle is = subst (IsCore told stored) (sym is.1) core
    core_begun g (begun.Refused note) is = refused_core note is
    core_begun g begun.Full is = subst (IsCore told stored) (sym is.2) core
    core_begun g begun.NoMemory is = given_up_core is

  -- ---- what contracts see

  tells_entry : (what : Task) (said : Reply) → IsEntered the_point by what said old new → TellsEntry by what said (seen_of old) (seen_of new)
  tells_entry what said is = record { first = is.first; room = sym room_is ∙ is.room; history = is.history }

  -- what a begin did, as contracts see it
  pub begins_told : {R : Type 0} (g : RegionGhosts R) (result : Begun R) →
      BeginsSo g the_point by old new (told old.disk) (told new.disk) (stored old.keeper) (stored new.keeper) result →
      BeginsTold g by told stored (seen_of old) (seen_of new) result
  begins_told g (begun.Started job) is = record {
    what = is.what;
    entered = tells_entry is.what reply.Started is.entered;
    begun = is.begun;
    rows = is.rows ∙ ap (λ (ps : List (List (List ℕ))). option_map (λ rows. remove_all rows ps) (stored old.keeper).rows)
        (gone_same old the_point is.what core.stands);
    faults = is.faults;
    called = subst (λ (ps : List (List (List ℕ))). IsStoreCall (are_some ps) false false (stored old.keeper) (stored new.keeper))
        (gone_same old the_point is.what core.stands) is.called;
  }
  begins_told g begun.Idle is = (is.0, ap seen_of is.1)
  begins_told g (begun.Refused note) is = record {
    what = is.what;
    entered = tells_entry is.what (reply.Refused note) is.entered;
    some = is.some;
    again = is.again;
    still = is.still;
    note = is.note;
    called = is.called;
  }
  begins_told g begun.Full is = (is.0, sym room_is ∙ is.1, ap seen_of is.2)
  begins_told g begun.NoMemory is = record { history = is.still.history; again = is.again; still = is.kept; called = is.called }

  -- what a core began with stays
  pub begin_keeps_base : {R : Type 0} (g : RegionGhosts R) (result : Begun R) →
      BeginsSo g the_point by old new (told old.disk) (told new.disk) (stored old.keeper) (stored new.keeper) result → new.base ≡ old.base
  begin_keeps_base g (begun.Started job) is = is.entered.same.base
  begin_keeps_base g begun.Idle is = ap (λ (p : Parts D K). p.base) is.1
  begin_keeps_base g (begun.Refused note) is = is.entered.same.base
  begin_keeps_base g begun.Full is = ap (λ (p : Parts D K). p.base) is.2
  begin_keeps_base g begun.NoMemory is = is.still.same.base
