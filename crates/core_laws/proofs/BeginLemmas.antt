-- What a begin takes: paths that are clear of the rows, and a part that has its row's tree.
use Rattle.std.proofs.Common.{◌≡◌, ℕ, ◌==◌, Bool, true, false, ◌&&◌, inl, inr, List, [], ◌∷◌, ◌++◌, Option, Some, None, refl, sym, ap, subst, ◌∙◌, Contains, arith}
use Rattle.std.specs.List.{find, list_any}
use Rattle.std.specs.Option.{option_map, option_map_or}
use Rattle.std.proofs.lemmas.Bool.{and_parts, both_ways, eqb-true, false_from_ne_true, or_right}
use Rattle.std.proofs.lemmas.List.Elements.{Contains-append_cases, Contains-append_right}
use Rattle.mat_path.specs.Names.{overlap}
use Rattle.mat_path.proofs.Elements.{contains_cases, contains_first, each_fails, none_passes}
use Rattle.mat_path.proofs.Overlaps.{overlap-refl}
use Rattle.mat_path.proofs.SameNames.{same_names-eq}
use Rattle.mat_tree.specs.Parts.{Part}
use Rattle.mat_model.specs.declared.book.Book.{Book}
use Rattle.mat_model.specs.declared.book.Row.{Row}
use Rattle.mat_model.specs.declared.entries.Entry.{Entry}
use Rattle.mat_model.specs.declared.entries.Event.{Event}
use Rattle.mat_model.specs.declared.entries.Event.TheVariants as event
use Rattle.mat_model.specs.declared.answers.FaultNote.{FaultNote}
use Rattle.mat_model.specs.declared.entries.Task.{Task}
use Rattle.mat_model.specs.declared.entries.Task.TheVariants as task
use Rattle.mat_model.specs.Gate.{Served}
use Rattle.mat_model.specs.History.{Point, after, answer, begin_with, is_keeper, next_number, refusal_note, work_after, work_begun}
use Rattle.mat_model.specs.Kept.{overlaps_kept}
use Rattle.mat_model.specs.Rows.{are_apart, is_at_path}
use Rattle.mat_model.specs.Work.{is_declared}
use Rattle.mat_model.specs.WorkState.{Job, Lent, Way, WayOf, WorkState, copied, has_loan, held, is_lent, lends_at, lent_by, lent_for, lent_of, path_of_task, refused, stands_as, started, store, way_of}
use Rattle.model_laws.specs.FirstRules.{MakeMayBegin}
use Rattle.model_laws.specs.RowRules.{served_at}
use Rattle.model_laws.specs.WorkRules.{IsLentBy, IsWork, are_reading, reads, reads_stamp}
use Rattle.model_laws.proofs.BooksLists.{any_contains, contains_any}
use Rattle.model_laws.proofs.BooksRows.{apart_same}
use Rattle.model_laws.proofs.Elements.{found_contains, found_passes}
use Rattle.model_laws.proofs.RowCases.{either_served}
use Rattle.region_port.specs.Calls.{Paths}
use Rattle.core_laws.specs.Loans.{AreLoans}
use Rattle.core_laws.specs.Sources.{IsSourceOf}
use Rattle.core_laws.specs.Tied.{AreTied, IsClear, IsTreeAt, is_home}
use Rattle.core_laws.proofs.LoanLemmas.{free_path}
use Rattle.core_laws.proofs.TiedLemmas.{away_clear, home_from, home_parts, read_away, tree_moves}

-- ---- the part that is read

source_by : (way : Way) (rows : List Row) (part : Lent) → lent_by way rows ≡ Some part → IsSourceOf rows part
source_by held rows part is = absurd cc
source_by store rows part is = absurd cc
source_by (copied source rest stamp holds) rows part is = by (find (stands_as source stamp) rows) refl is
  where
    mine : (row : Row) → find (stands_as source stamp) rows ≡ Some row → IsSourceOf rows (lent_of source stamp row)
    mine row found =
        let passes = and_parts (is_declared source stamp row) row.stands (found_passes (stands_as source stamp) rows row found) in
        let declared = and_parts (is_at_path source row) (row.stamp == stamp) passes.0 in
        record {
          row = row;
          among = found_contains (stands_as source stamp) rows row found;
          path = same_names-eq row.path source declared.0;
          stamp = eqb-true row.stamp stamp declared.1;
          tree = refl;
          stands = passes.1;
        }

    by : (o : Option Row) → find (stands_as source stamp) rows ≡ o → option_map (lent_of source stamp) o ≡ Some part → IsSourceOf rows part
    by None found none = absurd cc
    by (Some row) found some =
        let same : lent_of source stamp row ≡ part = cc in
        subst (λ (l : Lent). IsSourceOf rows l) same (mine row found)

pub source_of : (begun : Task) (rows : List Row) (ways : List WayOf) (part : Lent) → lent_for begun rows ways ≡ Some part → IsSourceOf rows part
source_of (task.Make path stamp) rows ways part is = source_by (way_of stamp ways) rows part is
source_of (task.Wipe path) rows ways part is = absurd cc

-- ---- paths that are clear

pub make_clear : (number caller : ℕ) (work : WorkState) (book : Book) (path : List (List ℕ)) (stamp : ℕ) → are_apart book.rows ≡ true →
    MakeMayBegin work book path stamp → IsClear book.rows (started number caller (task.Make path stamp) book.rows work).jobs path
make_clear number caller work book path stamp apart may =
    subst (λ (p : List (List ℕ)). IsClear book.rows (started number caller (task.Make path stamp) book.rows work).jobs p) may.placed
    (away_clear book.rows (started number caller (task.Make path stamp) book.rows work).jobs may.row apart may.among
    (false_from_ne_true (is_home (started number caller (task.Make path stamp) book.rows work).jobs may.row)
    (λ home. both_ways may.row.stands may.lies (home_parts (started number caller (task.Make path stamp) book.rows work).jobs may.row home).0)))

pub part_clear : (number caller : ℕ) (work : WorkState) (rows : List Row) (path : List (List ℕ)) (stamp : ℕ) (part : Lent) → are_apart rows ≡ true →
    lent_for (task.Make path stamp) rows work.ways ≡ Some part → IsClear rows (started number caller (task.Make path stamp) rows work).jobs part.path
part_clear number caller work rows path stamp part apart is =
    let from = source_of (task.Make path stamp) rows work.ways part is in
    subst (λ (p : List (List ℕ)). IsClear rows (started number caller (task.Make path stamp) rows work).jobs p) from.path
    (away_clear rows (started number caller (task.Make path stamp) rows work).jobs from.row apart from.among
    (read_away (started number caller (task.Make path stamp) rows work).jobs job part from.row
    (Contains-append_right work.jobs (job ∷ []) job (contains_first job [])) is (sym from.stamp)))
  where
    job : Job
    job = record { number = number; caller = caller; task = task.Make path stamp; lent = lent_for (task.Make path stamp) rows work.ways }

-- ---- what may be taken

pub part_free : (work : WorkState) (book : Book) (path : List (List ℕ)) (stamp : ℕ) (part : Lent) (lent : List (List (List ℕ))) → are_apart book.rows ≡ true →
    MakeMayBegin work book path stamp → lent_for (task.Make path stamp) book.rows work.ways ≡ Some part → AreLoans work.jobs lent →
    list_any (overlap part.path) (lent ++ path ∷ []) ≡ false
part_free work book path stamp part lent apart may is are =
    none_passes (overlap part.path) (lent ++ path ∷ [])
    (λ loan among. elim (Contains-append_cases lent (path ∷ []) loan among) [
      | inl before ↦ each_fails (overlap part.path) lent loan (free_path work.jobs lent part.path are (may.source part is)) before
      | inr new ↦ elim (contains_cases path [] loan new) [
        | inl same ↦ subst (λ (p : List (List ℕ)). overlap part.path p ≡ false) same aside
        | inr (k, within, at) ↦ absurd (omega arith)
      ]
    ])
  where
    from : IsSourceOf book.rows part
    from = source_of (task.Make path stamp) book.rows work.ways part is

    aside : overlap part.path path ≡ false
    aside =
        false_from_ne_true (overlap part.path path)
        (λ meet.
        let here : overlap from.row.path may.row.path ≡ true =
        subst (λ (p : List (List ℕ)). overlap p may.row.path ≡ true) (sym from.path)
        (subst (λ (p : List (List ℕ)). overlap part.path p ≡ true) (sym may.placed) meet) in
        let one : from.row ≡ may.row = apart_same book.rows from.row may.row apart from.among may.among here in
        both_ways may.row.stands may.lies (ap (λ (r : Row). r.stands) (sym one) ∙ from.stands))

-- ---- the tree of the part

pub part_tree : (next : ℕ) (spoken : ℕ → Bool) (rows : List Row) (work : WorkState) (begun : Task) (part : Lent) (content : Part) (rough : Paths) →
    IsWork next rows work → AreTied spoken rows work.jobs content rough → lent_for begun rows work.ways ≡ Some part → is_lent part.path work.jobs ≡ false →
    spoken part.stamp ≡ true → IsTreeAt part.path part.tree content rough
part_tree next spoken rows work begun part content rough rules tied is free said =
    tree_moves part.path from.row.path part.tree from.row.tree content rough (sym from.path) (sym from.tree)
    (tied from.row from.among (home_from work.jobs from.row from.stands unread) (ap spoken from.stamp ∙ said))
  where
    from : IsSourceOf rows part
    from = source_of begun rows work.ways part is

    loan : (job : Job) → Contains work.jobs job → (o : Option Lent) → job.lent ≡ o → option_map_or (reads_stamp from.row.stamp) o false ≡ true →
        option_map_or (lends_at part.path) o false ≡ true
    loan job among None none read = absurd cc
    loan job among (Some other) some read =
        let by = subst (IsLentBy rows) some (rules.jobs job among).lent from.row from.among (sym (eqb-true other.stamp from.row.stamp read)) in
        subst (λ (p : List (List ℕ)). overlap p part.path ≡ true) (sym from.path ∙ by.path) (overlap-refl part.path)

    unread : are_reading work.jobs from.row.stamp ≡ false
    unread =
        false_from_ne_true (are_reading work.jobs from.row.stamp)
        (λ read.
        let (job, among, mine) = any_contains (reads from.row.stamp) work.jobs read in
        both_ways (is_lent part.path work.jobs) free
        (contains_any (has_loan part.path) work.jobs job among
        (or_right (overlap (path_of_task job.task) part.path) (option_map_or (lends_at part.path) job.lent false) (loan job among job.lent refl mine))))

-- ---- begins at a point

begun_rows : (point : Point) (begun : Task) (o : Option FaultNote) → (begin_with point begun o).book.rows ≡ point.book.rows
begun_rows point begun None = refl
begun_rows point begun (Some note) =
    either_served (λ (served : Served). served.book.rows ≡ point.book.rows) (is_keeper note.device && list_any (overlaps_kept (path_of_task begun)) point.kept)
    _ _ (λ failed. refl) (λ calm. refl)

pub begin_rows : (point : Point) (entry : Entry) (begun : Task) → entry.event ≡ event.Begin begun → (after point entry).book.rows ≡ point.book.rows
begin_rows point entry begun is =
    subst (λ (e : Event). (answer point entry.now e entry.reply).book.rows ≡ point.book.rows) (sym is) (begun_rows point begun (refusal_note entry.reply))

pub begin_work : (point : Point) (entry : Entry) (begun : Task) → entry.event ≡ event.Begin begun → refusal_note (served_at point entry).reply ≡ None →
    (after point entry).work ≡ started (next_number point) entry.by.caller begun point.book.rows point.work
begin_work point entry begun is started_so =
    ap (λ (e : Event). work_after point entry.by.caller e (served_at point entry)) is ∙ ap (work_begun point entry.by.caller begun) started_so

pub begin_refused : (point : Point) (entry : Entry) (begun : Task) (note : FaultNote) → entry.event ≡ event.Begin begun →
    refusal_note (served_at point entry).reply ≡ Some note → (after point entry).work ≡ refused begun point.work
begin_refused point entry begun note is so =
    ap (λ (e : Event). work_after point entry.by.caller e (served_at point entry)) is ∙ ap (work_begun point entry.by.caller begun) so

pub refused_jobs : (begun : Task) (work : WorkState) → (refused begun work).jobs ≡ work.jobs
refused_jobs (task.Make path stamp) work = refl
refused_jobs (task.Wipe path) work = refl
