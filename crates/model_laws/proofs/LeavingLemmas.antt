-- The path of a row that a clean removed is leaving from the clean on, while there is only work; where all work is done, no claim overlaps it.
use Rattle.std.proofs.Common.{◌≡◌, ℕ, nat_lt, Bool, true, false, not, ◌&&◌, ◌⊎◌, inl, inr, List, [], ◌∷◌, ◌++◌, Option, Some, None, cond, refl, sym, ap, subst, ◌∙◌, map, Contains, arith}
use Rattle.std.specs.List.{filter, list_any}
use Rattle.std.proofs.lemmas.Bool.{and_parts, both_ways, eq-eqb, false_from_ne_true, not-true, or_left, true_from_ne_false}
use Rattle.std.proofs.lemmas.List.Elements.{Contains-append_cases, Contains-append_left}
use Rattle.mat_path.specs.Names.{overlap}
use Rattle.mat_path.proofs.CoveringRows.{among_rows}
use Rattle.mat_path.proofs.Elements.{contains_filter, contains_first, contains_map, contains_more, filtered_contains, mapped_contains}
use Rattle.mat_path.proofs.Overlaps.{overlap-sym}
use Rattle.mat_model.specs.declared.answers.FaultNote.{FaultNote}
use Rattle.mat_model.specs.declared.answers.Reply.{Reply}
use Rattle.mat_model.specs.declared.book.Row.{Row}
use Rattle.mat_model.specs.declared.entries.Entry.{Entry}
use Rattle.mat_model.specs.declared.entries.Event.{Event}
use Rattle.mat_model.specs.declared.entries.Event.TheVariants as event
use Rattle.mat_model.specs.declared.entries.Outcome.{Outcome}
use Rattle.mat_model.specs.declared.entries.Task.{Task}
use Rattle.mat_model.specs.declared.entries.Task.TheVariants as task
use Rattle.mat_model.specs.declared.requests.Asked.TheVariants as asked
use Rattle.mat_model.specs.declared.requests.CleanMode.{CleanMode}
use Rattle.mat_model.specs.Cleaning.{is_held, is_not_stale, is_stale}
use Rattle.mat_model.specs.Drained.{IsDrained}
use Rattle.mat_model.specs.Gate.{Served}
use Rattle.mat_model.specs.History.{Point, after, after_all, answer, answer_done, begin_with, is_keeper, is_store_fault, next_number, recorded_as, refusal_note, work_after}
use Rattle.mat_model.specs.Kept.{overlaps_kept}
use Rattle.mat_model.specs.Legal.{ComesInOrder, IsEach, IsInOrder}
use Rattle.mat_model.specs.Openings.{path_of_row}
use Rattle.mat_model.specs.WorkState.{Debris, Job, Lent, WayOf, WorkState, add_debris, cleans_all, condemn, condemned_all, ended, first_task, has_stamp, is_cleaning, is_condemned, is_dirty, is_gone, is_job, is_kept_dirty, is_stray, leaves_debris, path_of_debris, path_of_task, put_debris, refused, removed_rows, running, stamp_of, started, ways_after, without_removed}
use Rattle.model_laws.specs.CleanRules.{IsWorkOnly, IsCleanedAway, IsLeaving, IsMadeAside, IsPartLeaving, refused_no_wipe, is_work_only, job_failed_no_wipe}
use Rattle.model_laws.specs.Laws.{removes}
use Rattle.model_laws.specs.RowRules.{served_at}
use Rattle.model_laws.specs.RunRules.{IsCleaned}
use Rattle.model_laws.specs.WorkRules.{IsLentBy, IsWork, claimed_by_jobs, claimed_by_part, claims, is_on_disk, loans_of, owns}
use Rattle.model_laws.proofs.BooksLists.{contains_any}
use Rattle.model_laws.proofs.BooksRows.{apart_same}
use Rattle.model_laws.proofs.ClaimLemmas.{disk_no_debris, disk_own_loan, own_loans_apart}
use Rattle.model_laws.proofs.Elements.{found_contains}
use Rattle.model_laws.proofs.FirstLemmas.{make_may_begin}
use Rattle.model_laws.proofs.LeavingMoves.{ended_leaving, make_leaving, put_debris_cases, wipe_leaving}
use Rattle.model_laws.proofs.RowCases.{either_served}
use Rattle.model_laws.proofs.RunLemmas.{clean_leaves, clean_removes}

-- ---- the clean

-- a row that is gone isn't among those that are left
never_left : (left : List Row) (gone row : Row) → is_gone left gone ≡ true → Contains left row → row.stamp ≡ gone.stamp → ⊥
never_left left gone row is among same =
    both_ways (list_any (has_stamp gone.stamp) left) (not-true (list_any (has_stamp gone.stamp) left) is)
    (contains_any (has_stamp gone.stamp) left row among (eq-eqb row.stamp gone.stamp same))

-- debris with that of some rows was there, or is at the path of one of them with their mark
added_cases : (condemned : Bool) (rows : List Row) (debris : List Debris) (one : Debris) → Contains (add_debris condemned rows debris) one →
    Contains debris one ⊎ ((row : Row) × Contains rows row × (one.path ≡ row.path) × (one.condemned ≡ condemned))
added_cases condemned [] debris one among = inl among
added_cases condemned (row ∷ rows) debris one among =
    let new : Debris = record { path = row.path; condemned = condemned } in
    elim (added_cases condemned rows (put_debris new debris) one among) [
      | inl put ↦
          elim (put_debris_cases new debris one put) [
            | inl same ↦ inr (row, contains_first row rows, ap (λ (d : Debris). d.path) (sym same), ap (λ (d : Debris). d.condemned) (sym same))
            | inr before ↦ inl before
          ]
      | inr (other, within, at, mark) ↦ inr (other, contains_more row rows other within, at, mark)
    ]

-- the path of a row that stood and is removed is leaving afterwards, where debris that there is doesn't overlap it and that of removed rows is condemned
removed_leaving : (next : ℕ) (rows left : List Row) (work : WorkState) (row : Row) (leaves : Row → Bool) (ways : List WayOf) (dirty : List (List (List ℕ)))
    (debris : List Debris) → IsWork next rows work → ((other : Row) → Contains left other → Contains rows other) → Contains (removed_rows rows left) row →
    row.stands ≡ true → ((one : Debris) → Contains debris one → overlap row.path one.path ≡ false) →
    IsLeaving row.path left (record {
      ways = ways;
      jobs = work.jobs;
      dirty = dirty;
      debris = add_debris true (filter leaves (removed_rows rows left)) debris;
      cleaned = map stamp_of (removed_rows rows left) ++ work.cleaned;
    })
removed_leaving next rows left work row leaves ways dirty debris rules fewer gone stands aside = record {
  clear = λ other among.
      false_from_ne_true (overlap other.path row.path)
      (λ meet. never_left left row other there.1 among (ap (λ (r : Row). r.stamp) (one_row other (fewer other among) meet)));
  making = λ job among. makes job among job.task refl;
  debris = λ one among meet.
      elim (added_cases true (filter leaves (removed_rows rows left)) debris one among) [
        | inl before ↦ absurd (both_ways (overlap one.path row.path) (overlap-sym row.path one.path false (aside one before)) meet)
        | inr (other, within, at, mark) ↦
            let within_rows = (filtered_contains (is_gone left) rows other (filtered_contains leaves (removed_rows rows left) other within).0).0 in
            let same = one_row other within_rows (subst (λ (p : List (List ℕ)). overlap p row.path ≡ true) at meet) in
            record { placed = at ∙ ap (λ (r : Row). r.path) same; marked = mark }
      ];
  lending = λ job among. lends job among job.lent refl;
}
  where
    there : Contains rows row × (is_gone left row ≡ true)
    there = filtered_contains (is_gone left) rows row gone

    one_row : (other : Row) → Contains rows other → overlap other.path row.path ≡ true → other ≡ row
    one_row other among meet = apart_same rows other row rules.apart among there.0 meet

    on : is_on_disk work row ≡ true
    on = or_left row.stands (is_dirty work.dirty row.path) stands

    makes : (job : Job) → Contains work.jobs job → (t : Task) → job.task ≡ t → IsMadeAside row.path t
    makes job among (task.Wipe place) is = tt
    makes job among (task.Make place stamp) is =
        false_from_ne_true (overlap place row.path)
        (λ meet.
        let loan : Contains (loans_of job) place =
        subst (λ (t : Task). Contains (path_of_task t ∷ claimed_by_part job.lent) place) (sym is) (contains_first place (claimed_by_part job.lent)) in
        let read = disk_own_loan next rows work row job place rules there.0 on among loan (overlap-sym place row.path true meet) in
        let at : row.path ≡ read.part.path = (subst (IsLentBy rows) read.lent (rules.jobs job among).lent row there.0 (sym read.stamp)).path in
        let clear : overlap place read.part.path ≡ false =
        subst (λ (t : Task). overlap (path_of_task t) read.part.path ≡ false) is
        (own_loans_apart next rows work job read.part rules among read.lent) in
        both_ways (overlap place read.part.path) clear (subst (λ (p : List (List ℕ)). overlap place p ≡ true) at meet))

    lends : (job : Job) → Contains work.jobs job → (o : Option Lent) → job.lent ≡ o → IsPartLeaving row.path (map stamp_of (removed_rows rows left) ++ work.cleaned) o
    lends job among None is = tt
    lends job among (Some part) is = λ meet.
        let loan : Contains (loans_of job) part.path =
        contains_more (path_of_task job.task) (claimed_by_part job.lent) part.path
        (subst (λ (o : Option Lent). Contains (claimed_by_part o) part.path) (sym is) (contains_first part.path [])) in
        let read = disk_own_loan next rows work row job part.path rules there.0 on among loan (overlap-sym part.path row.path true meet) in
        let both : Some part ≡ Some read.part = sym is ∙ read.lent in
        let same : part ≡ read.part = cc in
        record {
          placed = read.path;
          marked = subst (λ (n : ℕ). Contains (map stamp_of (removed_rows rows left) ++ work.cleaned) n)
              (sym (ap (λ (l : Lent). l.stamp) same ∙ read.stamp))
              (Contains-append_left (map stamp_of (removed_rows rows left)) work.cleaned row.stamp
              (contains_map stamp_of (removed_rows rows left) row gone));
        }

-- a clean was served that removes, and removed a row
clean_served : (point : Point) (cutoff : ℕ) (how : CleanMode) (served : Served) (row : Row) → IsWork (next_number point) point.book.rows point.work →
    IsCleaned cutoff point.book served → Contains (removed_rows point.book.rows served.book.rows) row →
    IsLeaving row.path served.book.rows (work_after point 0 (event.Asked (asked.Clean cutoff how)) served)
clean_served point cutoff how served row rules cleaned gone =
    by (is_cleaning served.reply) (ap (λ (r : Reply). is_cleaning r) cleaned.told) (cleans_all (asked.Clean cutoff how) && is_cleaning served.reply)
  where
    there : Contains point.book.rows row × (is_gone served.book.rows row ≡ true)
    there = filtered_contains (is_gone served.book.rows) point.book.rows row gone

    -- it was stale, and so it stood
    stands : row.stands ≡ true
    stands =
        let old : is_stale cutoff point.book.holds row ≡ true =
        true_from_ne_false (is_stale cutoff point.book.holds row)
        (λ fresh.
        let stays : Contains served.book.rows row =
        subst (λ (rs : List Row). Contains rs row) (sym cleaned.rows)
        (contains_filter (is_not_stale cutoff point.book.holds) point.book.rows row (ap not fresh) there.0) in
        never_left served.book.rows row row there.1 stays refl) in
        (and_parts row.stands (not (is_held point.book.holds row)) (and_parts (row.stands && not (is_held point.book.holds row)) (nat_lt row.last cutoff) old).0).0

    aside : (one : Debris) → Contains point.work.debris one → overlap row.path one.path ≡ false
    aside one among =
        disk_no_debris (next_number point) point.book.rows point.work row one rules there.0
        (or_left row.stands (is_dirty point.work.dirty row.path) stands) among

    -- debris that is condemned is where it was
    condemned_aside : (one : Debris) → Contains (map (condemn point.work.jobs) point.work.debris) one → overlap row.path one.path ≡ false
    condemned_aside one among =
        let (old, within, is) = mapped_contains (condemn point.work.jobs) point.work.debris one among in
        subst (λ (d : Debris). overlap row.path d.path ≡ false) is
        (elim (is_stray point.work.jobs old) as (λ b. overlap row.path (cond b (record old { condemned = true }) old).path ≡ false)
        [ true ↦ aside old within | false ↦ aside old within ])

    removed : List Row
    removed = removed_rows point.book.rows served.book.rows

    ways : List WayOf
    ways = ways_after (asked.Clean cutoff how) served.reply point.book.rows point.work.ways

    by : (c : Bool) → c ≡ true → (all : Bool) →
        IsLeaving row.path served.book.rows (record (without_removed c removed (cond all (condemned_all point.work) point.work)) { ways = ways })
    by false is all = absurd cc
    by true is true =
        removed_leaving (next_number point) point.book.rows served.book.rows point.work row (leaves_debris (condemned_all point.work)) ways
        (filter (is_kept_dirty removed) point.work.dirty) (map (condemn point.work.jobs) point.work.debris) rules cleaned.old gone stands condemned_aside
    by true is false =
        removed_leaving (next_number point) point.book.rows served.book.rows point.work row (leaves_debris point.work) ways
        (filter (is_kept_dirty removed) point.work.dirty) point.work.debris rules cleaned.old gone stands aside

-- a clean that removed a row isn't dry, and the state store didn't fail
away_cleaned : (point : Point) (entry : Entry) (row : Row) → (away : IsCleanedAway point entry row) →
    IsCleaned away.cutoff point.book (served_at point entry)
away_cleaned point entry row away = by (removes away.mode) refl (is_store_fault (served_at point entry).reply) refl
  where
    never : (removes away.mode ≡ false) ⊎ (is_store_fault (served_at point entry).reply ≡ true) → ⊥
    never why =
        let (among, gone) = filtered_contains (is_gone (after point entry).book.rows) point.book.rows row away.gone in
        never_left (after point entry).book.rows row row gone
        (subst (λ (rows : List Row). Contains rows row) (sym (clean_leaves point entry away.cutoff away.mode away.asks why)) among) refl

    by : (b : Bool) → removes away.mode ≡ b → (c : Bool) → is_store_fault (served_at point entry).reply ≡ c →
        IsCleaned away.cutoff point.book (served_at point entry)
    by true on false calm = clean_removes point entry away.cutoff away.mode away.asks on calm
    by true on true failed = absurd (never (inr failed))
    by false off c told = absurd (never (inl off))

-- from a clean on the path of a row that it removed is leaving
pub cleaned_leaving : (point : Point) (entry : Entry) (row : Row) → IsWork (next_number point) point.book.rows point.work → IsCleanedAway point entry row →
    IsLeaving row.path (after point entry).book.rows (after point entry).work
cleaned_leaving point entry row rules away =
    subst
    (λ (what : Event). IsLeaving row.path (after point entry).book.rows (work_after point entry.by.caller what (served_at point entry))) (sym away.asks)
    (clean_served point away.cutoff away.mode (served_at point entry) row rules (away_cleaned point entry row away) away.gone)

-- ---- entries

-- a path stays leaving by an event that was served
abbrev LeavingBy : List (List ℕ) → Point → ℕ → Event → Served → Type 0
LeavingBy path point caller what served = IsLeaving path served.book.rows (work_after point caller what served)

-- the task that comes first begins
task_leaving : (path : List (List ℕ)) (point : Point) (caller : ℕ) (begun : Task) → first_task point.work point.book ≡ Some begun →
    IsLeaving path point.book.rows point.work →
    IsLeaving path point.book.rows (started (next_number point) caller begun point.book.rows point.work)
task_leaving path point caller (task.Make place stamp) first leaving =
    make_leaving path (next_number point) caller place stamp point.book point.work (make_may_begin point.work point.book place stamp first) leaving
task_leaving path point caller (task.Wipe place) first leaving = wipe_leaving path (next_number point) caller place point.book.rows point.work leaving

-- a make is refused
refused_leaving : (path : List (List ℕ)) (rows : List Row) (work : WorkState) (begun : Task) (note : FaultNote) → refused_no_wipe begun (Some note) ≡ true →
    IsLeaving path rows work → IsLeaving path rows (refused begun work)
refused_leaving path rows work (task.Make place stamp) note goes leaving = leaving
refused_leaving path rows work (task.Wipe place) note goes leaving = absurd cc

begin_leaving : (path : List (List ℕ)) (point : Point) (caller : ℕ) (begun : Task) (o : Option FaultNote) → first_task point.work point.book ≡ Some begun →
    IsLeaving path point.book.rows point.work → refused_no_wipe begun (refusal_note (begin_with point begun o).reply) ≡ true →
    LeavingBy path point caller (event.Begin begun) (begin_with point begun o)
begin_leaving path point caller begun None first leaving = λ goes. task_leaving path point caller begun first leaving
begin_leaving path point caller begun (Some note) first leaving =
    either_served
    (λ (served : Served). refused_no_wipe begun (refusal_note served.reply) ≡ true → LeavingBy path point caller (event.Begin begun) served)
    (is_keeper note.device && list_any (overlaps_kept (path_of_task begun)) point.kept) _ _
    (λ failed goes. refused_leaving path point.book.rows point.work begun note goes leaving)
    (λ calm goes. task_leaving path point caller begun first leaving)

-- a job ends, if one runs
done_leaving : (path : List (List ℕ)) (point : Point) (number : ℕ) (out : Outcome) (said : Reply) (o : Option Job) → running number point.work ≡ o →
    job_failed_no_wipe o out ≡ true → IsLeaving path point.book.rows point.work →
    IsLeaving path (answer_done point out said o).book.rows
    (ended number out (answer_done point out said o).reply (answer_done point out said o).book.rows point.work o)
done_leaving path point number out said None runs goes leaving = leaving
done_leaving path point number out said (Some job) runs goes leaving =
    ended_leaving path (next_number point) number job out (recorded_as said) point.book point.work (found_contains (is_job number) point.work.jobs job runs)
    goes leaving

-- a path that is leaving stays so by an entry that is work alone
pub entry_leaving : (path : List (List ℕ)) (point : Point) (entry : Entry) → ComesInOrder point entry → IsWorkOnly point entry →
    IsLeaving path point.book.rows point.work → IsLeaving path (after point entry).book.rows (after point entry).work
entry_leaving path point entry order goes leaving = by entry.event order goes
  where
    by : (what : Event) → IsInOrder point entry.by.caller what → is_work_only point what (answer point entry.now what entry.reply).reply ≡ true →
        LeavingBy path point entry.by.caller what (answer point entry.now what entry.reply)
    by (event.Asked request) first on = absurd cc
    by (event.Begin begun) first on = begin_leaving path point entry.by.caller begun (refusal_note entry.reply) first leaving on
    by (event.Done number out) first on = done_leaving path point number out entry.reply (running number point.work) refl on leaving

-- and by some such entries
pub history_leaving : (path : List (List ℕ)) (point : Point) (later : List Entry) → IsEach ComesInOrder point later → IsEach IsWorkOnly point later →
    IsLeaving path point.book.rows point.work → IsLeaving path (after_all point later).book.rows (after_all point later).work
history_leaving path point [] orders goes leaving = leaving
history_leaving path point (entry ∷ later) orders goes leaving =
    history_leaving path (after point entry) later orders.1 goes.1 (entry_leaving path point entry orders.0 goes.0 leaving)

-- ---- the law

-- the path of a row that a clean removed is leaving behind entries that are work alone
pub cleaned_leaving_later : (point : Point) (entry : Entry) (later : List Entry) (row : Row) → IsWork (next_number point) point.book.rows point.work →
    IsCleanedAway point entry row → IsEach ComesInOrder (after point entry) later → IsEach IsWorkOnly (after point entry) later →
    IsLeaving row.path (after_all (after point entry) later).book.rows (after_all (after point entry) later).work
cleaned_leaving_later point entry later row rules away orders goes =
    history_leaving row.path (after point entry) later orders goes (cleaned_leaving point entry row rules away)

-- where all work is done, no claim overlaps a path that is leaving
drained_clear : (path : List (List ℕ)) (point : Point) (claim : List (List ℕ)) → IsLeaving path point.book.rows point.work → IsDrained point →
    Contains (claims point.book.rows point.work) claim → overlap claim path ≡ false
drained_clear path point claim leaving drained among =
    elim (Contains-append_cases (own ++ map path_of_debris point.work.debris) (claimed_by_jobs point.work.jobs) claim among) [
      | inl parts ↦
          elim (Contains-append_cases own (map path_of_debris point.work.debris) claim parts) [
            | inl mine ↦
                let (row, within, owned, named) = among_rows path_of_row (owns point.work) point.book.rows claim mine in
                subst (λ (p : List (List ℕ)). overlap p path ≡ false) named (leaving.clear row within)
            | inr debris ↦
                let (one, within, at) = mapped_contains path_of_debris point.work.debris claim debris in
                false_from_ne_true (overlap claim path)
                (λ meet.
                let condemned = leaving.debris one within (subst (λ (p : List (List ℕ)). overlap p path ≡ true) (sym at) meet) in
                both_ways (list_any is_condemned point.work.debris) drained.clean
                (contains_any is_condemned point.work.debris one within condemned.marked))
          ]
      | inr jobs ↦ absurd (none (subst (λ (js : List Job). Contains (claimed_by_jobs js) claim) drained.jobs jobs))
    ]
  where
    own : List (List (List ℕ))
    own = map path_of_row (filter (owns point.work) point.book.rows)

    none : Contains [] claim → ⊥
    none (k, within, at) = omega (arith, within)

-- once all work is done, no claim overlaps the path of a row that a clean removed
pub cleaned_gone : (point : Point) (entry : Entry) (later : List Entry) (row : Row) (claim : List (List ℕ)) →
    IsWork (next_number point) point.book.rows point.work → IsCleanedAway point entry row → IsEach ComesInOrder (after point entry) later →
    IsEach IsWorkOnly (after point entry) later → IsDrained (after_all (after point entry) later) →
    Contains (claims (after_all (after point entry) later).book.rows (after_all (after point entry) later).work) claim → overlap claim row.path ≡ false
cleaned_gone point entry later row claim rules away orders goes drained among =
    drained_clear row.path (after_all (after point entry) later) claim (cleaned_leaving_later point entry later row rules away orders goes) drained among
