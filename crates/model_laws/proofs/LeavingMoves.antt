-- A path that is leaving stays so where a job begins, and where one ends: its task ends, and then the part comes back that it read.
use Rattle.std.proofs.Common.{◌≡◌, ℕ, ◌==◌, Bool, true, false, not, ◌⊎◌, inl, inr, List, [], ◌∷◌, ◌++◌, Option, Some, None, cond, refl, sym, subst, map, find, Contains, arith}
use Rattle.std.specs.List.{filter, list_any}
use Rattle.std.specs.Option.{option_map}
use Rattle.std.proofs.lemmas.Bool.{and_parts, both_ways, eq-eqb}
use Rattle.std.proofs.lemmas.List.Elements.{Contains-append_cases}
use Rattle.mat_path.specs.Names.{overlap, same_names}
use Rattle.mat_path.proofs.Elements.{contains_cases, contains_first, contains_more, filtered_contains, mapped_contains}
use Rattle.mat_path.proofs.SameNames.{same_names-eq}
use Rattle.mat_model.specs.declared.answers.Recorded.{Recorded}
use Rattle.mat_model.specs.declared.book.Book.{Book}
use Rattle.mat_model.specs.declared.book.Row.{Row}
use Rattle.mat_model.specs.declared.entries.Outcome.{Outcome}
use Rattle.mat_model.specs.declared.entries.Outcome.TheVariants as outcome
use Rattle.mat_model.specs.declared.entries.Task.{Task}
use Rattle.mat_model.specs.declared.entries.Task.TheVariants as task
use Rattle.mat_model.specs.Rows.{comes_before, is_at_path, standing_row}
use Rattle.mat_model.specs.Work.{end_make, finish, is_declared}
use Rattle.mat_model.specs.WorkState.{Debris, Job, Lent, Way, WorkState, copied, ended, ended_work, has_stamp, held, is_elsewhere, is_not_below, is_other_job, lent_by, lent_of, made_work, put_debris, returned, stands_as, started, store, way_of}
use Rattle.model_laws.specs.CleanRules.{IsCondemnedAt, IsLeaving, IsMadeAside, IsPartLeaving, failed_no_wipe}
use Rattle.model_laws.specs.FirstRules.{MakeMayBegin}
use Rattle.model_laws.proofs.BooksLists.{contains_any}
use Rattle.model_laws.proofs.Changes.{standing-path}
use Rattle.model_laws.proofs.Elements.{found_contains, found_passes}

-- ---- debris

-- debris of some that one was put among is that one, or was there
pub put_debris_cases : (new : Debris) (debris : List Debris) (one : Debris) → Contains (put_debris new debris) one → (new ≡ one) ⊎ Contains debris one
put_debris_cases new [] one among = contains_cases new [] one among
put_debris_cases new (first ∷ debris) one among =
    elim (comes_before new.path first.path) as
    (λ b. Contains (cond b (new ∷ first ∷ debris) (first ∷ put_debris new debris)) one → (new ≡ one) ⊎ Contains (first ∷ debris) one) [
      | true ↦ λ here. contains_cases new (first ∷ debris) one here
      | false ↦ λ here.
          elim (contains_cases first (put_debris new debris) one here) [
            | inl same ↦ inr (subst (λ (d : Debris). Contains (first ∷ debris) d) same (contains_first first debris))
            | inr more ↦ elim (put_debris_cases new debris one more) [ inl same ↦ inl same | inr rest ↦ inr (contains_more first debris one rest) ]
          ]
    ] among

-- debris is put that is condemned at the path, if it overlaps it
put_leaving : (path : List (List ℕ)) (rows : List Row) (work : WorkState) (new : Debris) → (overlap new.path path ≡ true → IsCondemnedAt path new) →
    IsLeaving path rows work → IsLeaving path rows (record work { debris = put_debris new work.debris })
put_leaving path rows work new condemned leaving = record {
  clear = leaving.clear;
  making = leaving.making;
  debris = λ one among meet.
      elim (put_debris_cases new work.debris one among) [
        | inl same ↦ subst (IsCondemnedAt path) same (condemned (subst (λ (d : Debris). overlap d.path path ≡ true) (sym same) meet))
        | inr before ↦ leaving.debris one before meet
      ];
  lending = leaving.lending;
}

-- ---- a job begins

-- a job begins that makes nothing that overlaps the path and reads nothing there but the part of a removed row; some debris goes
begun_leaving : (path : List (List ℕ)) (rows : List Row) (work : WorkState) (job : Job) (dirty : List (List (List ℕ))) (debris : List Debris) →
    IsMadeAside path job.task → IsPartLeaving path work.cleaned job.lent → ((one : Debris) → Contains debris one → Contains work.debris one) →
    IsLeaving path rows work → IsLeaving path rows (record work { jobs = work.jobs ++ job ∷ []; dirty = dirty; debris = debris })
begun_leaving path rows work job dirty debris aside part fewer leaving = record {
  clear = leaving.clear;
  making = λ other among. elim (cases other among) [ inl before ↦ leaving.making other before | inr same ↦ subst (λ (j : Job). IsMadeAside path j.task) same aside ];
  debris = λ one among. leaving.debris one (fewer one among);
  lending = λ other among.
      elim (cases other among) [ inl before ↦ leaving.lending other before | inr same ↦ subst (λ (j : Job). IsPartLeaving path work.cleaned j.lent) same part ];
}
  where
    cases : (other : Job) → Contains (work.jobs ++ job ∷ []) other → Contains work.jobs other ⊎ (job ≡ other)
    cases other among =
        elim (Contains-append_cases work.jobs (job ∷ []) other among) [
          | inl before ↦ inl before
          | inr last ↦ elim (contains_cases job [] other last) [ inl same ↦ inr same | inr (k, within, at) ↦ absurd (omega arith) ]
        ]

-- what a way reads is the part of a row that is still there, so it doesn't overlap the path
lends_aside : (path : List (List ℕ)) (rows : List Row) (cleaned : List ℕ) (way : Way) → ((row : Row) → Contains rows row → overlap row.path path ≡ false) →
    IsPartLeaving path cleaned (lent_by way rows)
lends_aside path rows cleaned held clear = tt
lends_aside path rows cleaned store clear = tt
lends_aside path rows cleaned (copied source rest stamp holds) clear = by (find (stands_as source stamp) rows) refl
  where
    by : (o : Option Row) → find (stands_as source stamp) rows ≡ o → IsPartLeaving path cleaned (option_map (lent_of source stamp) o)
    by None found = tt
    by (Some row) found = λ meet.
        let parts = and_parts (is_declared source stamp row) row.stands (found_passes (stands_as source stamp) rows row found) in
        let declared = and_parts (is_at_path source row) (row.stamp == stamp) parts.0 in
        let aside : overlap source path ≡ false =
        subst (λ (p : List (List ℕ)). overlap p path ≡ false) (same_names-eq row.path source declared.0)
        (clear row (found_contains (stands_as source stamp) rows row found)) in
        absurd (both_ways (overlap source path) aside meet)

-- a make begins
pub make_leaving : (path : List (List ℕ)) (number caller : ℕ) (place : List (List ℕ)) (stamp : ℕ) (book : Book) (work : WorkState) →
    MakeMayBegin work book place stamp → IsLeaving path book.rows work →
    IsLeaving path book.rows (started number caller (task.Make place stamp) book.rows work)
make_leaving path number caller place stamp book work may leaving =
    begun_leaving path book.rows work
    (record { number = number; caller = caller; task = task.Make place stamp; lent = lent_by (way_of stamp work.ways) book.rows })
    (filter (λ (other : List (List ℕ)). not (same_names other place)) work.dirty) (filter (is_not_below place) work.debris)
    (subst (λ (p : List (List ℕ)). overlap p path ≡ false) may.placed (leaving.clear may.row may.among))
    (lends_aside path book.rows work.cleaned (way_of stamp work.ways) leaving.clear)
    (λ one among. (filtered_contains (is_not_below place) work.debris one among).0) leaving

-- a wipe begins
pub wipe_leaving : (path : List (List ℕ)) (number caller : ℕ) (place : List (List ℕ)) (rows : List Row) (work : WorkState) → IsLeaving path rows work →
    IsLeaving path rows (started number caller (task.Wipe place) rows work)
wipe_leaving path number caller place rows work leaving =
    begun_leaving path rows work (record { number = number; caller = caller; task = task.Wipe place; lent = None }) work.dirty work.debris tt tt
    (λ one among. among) leaving

-- ---- a job ends

-- what holds while a job ends: the path is leaving, and the part is still out that the job read
record Ending (path : List (List ℕ)) (part : Option Lent) (rows : List Row) (work : WorkState) : Type 0 where
  leaving : IsLeaving path rows work
  out : IsPartLeaving path work.cleaned part

-- rows come to stand
stand_leaving : (path place : List (List ℕ)) (rows : List Row) (work : WorkState) → IsLeaving path rows work →
    IsLeaving path (map (standing_row place) rows) work
stand_leaving path place rows work leaving = record {
  clear = λ row among.
      let (old, within, is) = mapped_contains (standing_row place) rows row among in
      subst (λ (r : Row). overlap r.path path ≡ false) is
      (subst (λ (p : List (List ℕ)). overlap p path ≡ false) (sym (standing-path place old)) (leaving.clear old within));
  making = leaving.making;
  debris = leaving.debris;
  lending = leaving.lending;
}

-- a make ends at a place that doesn't overlap the path, where its row, if it is still there, is given
make_ends : (path : List (List ℕ)) (part : Option Lent) (number : ℕ) (place : List (List ℕ)) (out : Outcome) (how : Recorded) (book : Book) (work : WorkState) (o : Option Row) →
    overlap place path ≡ false → Ending path part book.rows work →
    Ending path part (end_make number place out how book o).book.rows (made_work place out (end_make number place out how book o).reply work)
make_ends path part number place out how book work None aside ending = record {
  leaving = put_leaving path book.rows work (record { path = place; condemned = false }) (λ meet. absurd (both_ways (overlap place path) aside meet)) ending.leaving;
  out = ending.out;
}
make_ends path part number place out how book work (Some row) aside ending = by out
  where
    failed : Ending path part book.rows (record work { dirty = place ∷ work.dirty })
    failed = record {
      leaving = record {
        clear = ending.leaving.clear;
        making = ending.leaving.making;
        debris = ending.leaving.debris;
        lending = ending.leaving.lending;
      };
      out = ending.out;
    }

    by : (end : Outcome) →
        Ending path part (end_make number place end how book (Some row)).book.rows (made_work place end (end_make number place end how book (Some row)).reply work)
    by outcome.Made = record { leaving = stand_leaving path place book.rows work ending.leaving; out = ending.out }
    by outcome.Wiped = failed
    by (outcome.Missing digest) = failed
    by (outcome.Corrupt wanted other) = failed
    by (outcome.Fault note) = failed
    by outcome.NoMemory = failed

-- a task ends, which is no wipe that failed
task_ends : (path : List (List ℕ)) (part : Option Lent) (number : ℕ) (t : Task) (out : Outcome) (how : Recorded) (book : Book) (work : WorkState) →
    IsMadeAside path t → failed_no_wipe t out ≡ true → Ending path part book.rows work →
    Ending path part (finish number t out how book).book.rows (ended_work t out (finish number t out how book).reply work)
task_ends path part number (task.Make place stamp) out how book work aside goes ending =
    make_ends path part number place out how book work (find (is_declared place stamp) book.rows) aside ending
task_ends path part number (task.Wipe place) outcome.Wiped how book work aside goes ending = record {
  leaving = record {
    clear = ending.leaving.clear;
    making = ending.leaving.making;
    debris = λ one among. ending.leaving.debris one (filtered_contains (is_elsewhere place) work.debris one among).0;
    lending = ending.leaving.lending;
  };
  out = ending.out;
}
task_ends path part number (task.Wipe place) outcome.Made how book work aside goes ending = absurd cc
task_ends path part number (task.Wipe place) (outcome.Missing digest) how book work aside goes ending = absurd cc
task_ends path part number (task.Wipe place) (outcome.Corrupt wanted found) how book work aside goes ending = absurd cc
task_ends path part number (task.Wipe place) (outcome.Fault note) how book work aside goes ending = absurd cc
task_ends path part number (task.Wipe place) outcome.NoMemory how book work aside goes ending = absurd cc

-- the part comes back: where it overlaps the path, it is condemned there
part_returns : (path : List (List ℕ)) (part : Option Lent) (rows : List Row) (work : WorkState) → Ending path part rows work →
    IsLeaving path rows (returned part rows work)
part_returns path None rows work ending = ending.leaving
part_returns path (Some lent) rows work ending = by (list_any (has_stamp lent.stamp) rows)
  where
    new : Debris
    new = record { path = lent.path; condemned = list_any (λ (stamp : ℕ). stamp == lent.stamp) work.cleaned }

    by : (b : Bool) → IsLeaving path rows (cond b work (record work { debris = put_debris new work.debris }))
    by true = ending.leaving
    by false =
        put_leaving path rows work new
        (λ meet.
        let part = ending.out meet in record {
          placed = part.placed;
          marked = contains_any (λ (stamp : ℕ). stamp == lent.stamp) work.cleaned lent.stamp part.marked (eq-eqb lent.stamp lent.stamp refl);
        })
        ending.leaving

-- a job ends, which is no wipe that failed
pub ended_leaving : (path : List (List ℕ)) (next number : ℕ) (job : Job) (out : Outcome) (how : Recorded) (book : Book) (work : WorkState) →
    Contains work.jobs job → failed_no_wipe job.task out ≡ true → IsLeaving path book.rows work →
    IsLeaving path (finish next job.task out how book).book.rows
    (ended number out (finish next job.task out how book).reply (finish next job.task out how book).book.rows work (Some job))
ended_leaving path next number job out how book work among goes leaving =
    part_returns path job.lent (finish next job.task out how book).book.rows (ended_work job.task out (finish next job.task out how book).reply others)
    (task_ends path job.lent next job.task out how book others (leaving.making job among) goes
    (record { leaving = fewer; out = leaving.lending job among }))
  where
    others : WorkState
    others = record work { jobs = filter (is_other_job number) work.jobs }

    fewer : IsLeaving path book.rows others
    fewer = record {
      clear = leaving.clear;
      making = λ other also. leaving.making other (filtered_contains (is_other_job number) work.jobs other also).0;
      debris = leaving.debris;
      lending = λ other also. leaving.lending other (filtered_contains (is_other_job number) work.jobs other also).0;
    }
