-- The rules of a work state after a job ended: its task ends, and then the part comes back that it read.
use Rattle.std.proofs.Common.{◌≡◌, ℕ, ◌+◌, ◌≤◌, ◌==◌, Bool, true, false, not, ◌⊎◌, List, ◌∷◌, ◌++◌, Option, Some, None, cond, refl, sym, ap, subst, ◌∙◌, map, find, Contains, arith}
use Rattle.std.specs.List.{filter, list_any}
use Rattle.std.proofs.lemmas.Bool.{and_parts, both_ways, eqb-true, false_from_ne_true, not-true}
use Rattle.mat_path.specs.Covering.{covering}
use Rattle.mat_path.specs.Names.{is_prefix, same_names}
use Rattle.mat_path.proofs.CoveringLemmas.{contains_among, covering-append}
use Rattle.mat_path.proofs.Elements.{contains_filter, contains_map, filtered_contains, mapped_contains}
use Rattle.mat_path.proofs.PathLemmas.{prefix-refl}
use Rattle.mat_path.proofs.SameNames.{same_names-eq}
use Rattle.mat_model.specs.declared.answers.Recorded.{Recorded}
use Rattle.mat_model.specs.declared.book.Book.{Book}
use Rattle.mat_model.specs.declared.book.Row.{Row}
use Rattle.mat_model.specs.declared.entries.Outcome.{Outcome}
use Rattle.mat_model.specs.declared.entries.Outcome.TheVariants as outcome
use Rattle.mat_model.specs.declared.entries.Task.{Task}
use Rattle.mat_model.specs.declared.entries.Task.TheVariants as task
use Rattle.mat_model.specs.Openings.{path_of_row}
use Rattle.mat_model.specs.Rows.{are_apart, is_at_path, standing_row}
use Rattle.mat_model.specs.Work.{end_make, finish, is_declared}
use Rattle.mat_model.specs.WorkState.{Debris, Job, Lent, WorkState, ended, ended_work, has_stamp, is_elsewhere, is_job, is_other_job, made_work, marked, path_of_debris, put_debris, returned, running}
use Rattle.model_laws.specs.WorkRules.{IsJob, IsLentBy, IsMaking, are_reading, claimed_by_job, claimed_by_part, claimed_by_task, owns_by, reads_stamp}
use Rattle.std.specs.Option.{option_map_or}
use Rattle.model_laws.proofs.Apart.{apart-map}
use Rattle.model_laws.proofs.Changes.{standing-path}
use Rattle.model_laws.proofs.Coverings.{covering_within, paths-map, row_covers}
use Rattle.model_laws.proofs.DebrisOrder.{Ascends, ascends-map, put_apart}
use Rattle.model_laws.proofs.KeptOrder.{ascends_filtered}
use Rattle.model_laws.proofs.Elements.{found_contains, found_passes}
use Rattle.model_laws.proofs.WorkBase.{Base, HasLying, lying_row}
use Rattle.model_laws.proofs.WorkBegins.{Kept, put_keeps}
use Rattle.model_laws.proofs.WorkClaims.{Claimed, owns_lying}
use Rattle.model_laws.proofs.WorkEnds.{drop_claims, failed_takes, idle_cases, made_takes, marked-path, marked_takes, nothing_back, part_back, part_left, stale_takes, taken_over, wiped_takes}
use Rattle.model_laws.proofs.WorkMoves.{debris_base, drop_base, failed_base, made_base, made_lent}

-- the rules of a work state while a job ends, whose number it no longer has: some paths are loose, and a part is still lent
record Ending (next : ℕ) (is_read : ℕ → Bool) (jobs : List Job) (loose : List (List (List ℕ))) (o : Option Lent) (rows : List Row) (work : WorkState) : Type 0 where
  same : work.jobs ≡ jobs
  apart : are_apart rows ≡ true
  base : Base next rows work.jobs work.dirty (map path_of_debris work.debris)
  order : Ascends work.debris
  claimed : Claimed is_read loose rows work.dirty work.debris work.jobs
  lent : IsLentBy rows o

-- ---- the task

-- no other job makes what a make that ends has made
make_alone : (is_read : ℕ → Bool) (path : List (List ℕ)) (more : List (List (List ℕ))) (rows : List Row) (dirty : List (List (List ℕ))) (debris : List Debris) (jobs : List Job) →
    Claimed is_read (path ∷ more) rows dirty debris jobs → (job : Job) → Contains jobs job → (other : List (List ℕ)) (stamp : ℕ) →
    job.task ≡ task.Make other stamp → other ≡ path → ⊥
make_alone is_read path more rows dirty debris jobs claimed job among other stamp is same =
    let mine : covering path (claimed_by_job job) ≡ covering path (claimed_by_task (task.Make other stamp)) + covering path (claimed_by_part job.lent) =
    covering-append path (claimed_by_task job.task) (claimed_by_part job.lent)
    ∙ ap (λ (t : Task). covering path (claimed_by_task t) + covering path (claimed_by_part job.lent)) is in
    let here : is_prefix other path ≡ true = subst (λ (p : List (List ℕ)). is_prefix p path ≡ true) (sym same) (prefix-refl path) in
    let one : ◌≡◌ {A = ℕ} (cond (is_prefix other path) 1 0) 1 = ap {B = ℕ} (λ (b : Bool). cond b 1 0) here in
    let too : ◌≡◌ {A = ℕ} (cond (is_prefix path path) 1 0) 1 = ap {B = ℕ} (λ (b : Bool). cond b 1 0) (prefix-refl path) in
    let most = claimed path in
    omega (arith, most, mine, one, too, covering_within claimed_by_job path jobs job among)

-- and its path isn't dirty
make_clean : (is_read : ℕ → Bool) (next : ℕ) (path : List (List ℕ)) (more : List (List (List ℕ))) (rows : List Row) (dirty : List (List (List ℕ))) (debris : List Debris)
    (jobs : List Job) → Base next rows jobs dirty (map path_of_debris debris) → Claimed is_read (path ∷ more) rows dirty debris jobs →
    (other : List (List ℕ)) → Contains dirty other → other ≡ path → ⊥
make_clean is_read next path more rows dirty debris jobs base claimed other among same =
    let (row, within, at, lies) = lying_row rows other (base.lying other among) in
    let owns : owns_by is_read dirty row ≡ true =
    owns_lying is_read dirty row lies ∙ subst (λ (p : List (List ℕ)). list_any (same_names p) dirty ≡ true) (sym at) (contains_among other dirty among) in
    let mine : 1 ≤ covering path (map path_of_row (filter (owns_by is_read dirty) rows)) =
    row_covers (owns_by is_read dirty) path rows row within owns
    (subst (λ (p : List (List ℕ)). is_prefix p path ≡ true) (sym (at ∙ same)) (prefix-refl path)) in
    let too : ◌≡◌ {A = ℕ} (cond (is_prefix path path) 1 0) 1 = ap {B = ℕ} (λ (b : Bool). cond b 1 0) (prefix-refl path) in
    let most = claimed path in
    omega (arith, most, mine, too)

-- the make's part is debris
ending_stale : (next : ℕ) (is_read : ℕ → Bool) (jobs : List Job) (path : List (List ℕ)) (stamp : ℕ) (loose : List (List (List ℕ))) (o : Option Lent) (rows : List Row) (work : WorkState) →
    Ending next is_read jobs (claimed_by_task (task.Make path stamp) ++ loose) o rows work →
    Ending next is_read jobs loose o rows (record work { debris = put_debris (record { path = path; condemned = false }) work.debris })
ending_stale next is_read jobs path stamp loose o rows work ending = record {
  same = ending.same;
  apart = ending.apart;
  base = debris_base next rows work.jobs work.dirty (map path_of_debris work.debris)
      (map path_of_debris (put_debris (record { path = path; condemned = false }) work.debris)) ending.base
      (λ job among wiped is within. put_keeps (record { path = path; condemned = false }) work.debris wiped within);
  order = put_apart (record { path = path; condemned = false }) work.debris ending.order
      (λ x. let most = ending.claimed x in omega (arith, most));
  claimed = taken_over is_read (task.Make path stamp) loose rows work.dirty work.debris rows work.dirty
      (put_debris (record { path = path; condemned = false }) work.debris) work.jobs
      (stale_takes is_read path stamp false rows work.dirty work.debris) ending.claimed;
  lent = ending.lent;
}

-- the row was made
ending_made : (next : ℕ) (is_read : ℕ → Bool) (jobs : List Job) (path : List (List ℕ)) (stamp : ℕ) (loose : List (List (List ℕ))) (o : Option Lent) (rows : List Row) (work : WorkState) →
    Ending next is_read jobs (claimed_by_task (task.Make path stamp) ++ loose) o rows work → Ending next is_read jobs loose o (map (standing_row path) rows) work
ending_made next is_read jobs path stamp loose o rows work ending = record {
  same = ending.same;
  apart = apart-map (standing_row path) (standing-path path) rows ∙ ending.apart;
  base = made_base next rows work.jobs work.dirty (map path_of_debris work.debris) path ending.base
      (make_alone is_read path loose rows work.dirty work.debris work.jobs ending.claimed)
      (make_clean is_read next path loose rows work.dirty work.debris work.jobs ending.base ending.claimed);
  order = ending.order;
  claimed = taken_over is_read (task.Make path stamp) loose rows work.dirty work.debris (map (standing_row path) rows) work.dirty work.debris work.jobs
      (made_takes is_read path stamp rows work.dirty work.debris ending.apart) ending.claimed;
  lent = made_lent path rows o ending.lent;
}

-- its make failed
ending_failed : (next : ℕ) (is_read : ℕ → Bool) (jobs : List Job) (path : List (List ℕ)) (stamp : ℕ) (loose : List (List (List ℕ))) (o : Option Lent) (rows : List Row) (work : WorkState) →
    HasLying rows path → Ending next is_read jobs (claimed_by_task (task.Make path stamp) ++ loose) o rows work →
    Ending next is_read jobs loose o rows (record work { dirty = path ∷ work.dirty })
ending_failed next is_read jobs path stamp loose o rows work lying ending = record {
  same = ending.same;
  apart = ending.apart;
  base = failed_base next rows work.jobs work.dirty (map path_of_debris work.debris) path ending.base lying;
  order = ending.order;
  claimed = taken_over is_read (task.Make path stamp) loose rows work.dirty work.debris rows (path ∷ work.dirty) work.debris work.jobs
      (failed_takes is_read path stamp rows work.dirty work.debris ending.apart) ending.claimed;
  lent = ending.lent;
}

-- a path was wiped that no other job wipes
ending_wiped : (next : ℕ) (is_read : ℕ → Bool) (jobs : List Job) (path : List (List ℕ)) (loose : List (List (List ℕ))) (o : Option Lent) (rows : List Row) (work : WorkState) →
    ((job : Job) → Contains work.jobs job → job.task ≡ task.Wipe path → ⊥) → Ending next is_read jobs (claimed_by_task (task.Wipe path) ++ loose) o rows work →
    Ending next is_read jobs loose o rows (record work { debris = filter (is_elsewhere path) work.debris })
ending_wiped next is_read jobs path loose o rows work alone ending = record {
  same = ending.same;
  apart = ending.apart;
  base = debris_base next rows work.jobs work.dirty (map path_of_debris work.debris) (map path_of_debris (filter (is_elsewhere path) work.debris)) ending.base
      (λ job among wiped is within.
      let (one, lying, at) = mapped_contains path_of_debris work.debris wiped within in
      let other : same_names one.path path ≡ false =
      false_from_ne_true (same_names one.path path)
      (λ same. alone job among (subst (λ (p : List (List ℕ)). job.task ≡ task.Wipe p) (sym at ∙ same_names-eq one.path path same) is)) in
      subst (λ (p : List (List ℕ)). Contains (map path_of_debris (filter (is_elsewhere path) work.debris)) p) at
      (contains_map path_of_debris (filter (is_elsewhere path) work.debris) one (contains_filter (is_elsewhere path) work.debris one (ap not other) lying)));
  order = ascends_filtered path_of_debris (is_elsewhere path) work.debris ending.order;
  claimed = taken_over is_read (task.Wipe path) loose rows work.dirty work.debris rows work.dirty (filter (is_elsewhere path) work.debris) work.jobs
      (wiped_takes is_read path rows work.dirty work.debris) ending.claimed;
  lent = ending.lent;
}

-- a wipe failed
ending_marked : (next : ℕ) (is_read : ℕ → Bool) (jobs : List Job) (path : List (List ℕ)) (loose : List (List (List ℕ))) (o : Option Lent) (rows : List Row) (work : WorkState) →
    Ending next is_read jobs (claimed_by_task (task.Wipe path) ++ loose) o rows work →
    Ending next is_read jobs loose o rows (record work { debris = map (marked false path) work.debris })
ending_marked next is_read jobs path loose o rows work ending = record {
  same = ending.same;
  apart = ending.apart;
  base = subst (λ (ps : List (List (List ℕ))). Base next rows work.jobs work.dirty ps)
      (sym (paths-map (marked false path) (marked-path false path) work.debris)) ending.base;
  order = ascends-map (marked false path) (marked-path false path) work.debris ∙ ending.order;
  claimed = taken_over is_read (task.Wipe path) loose rows work.dirty work.debris rows work.dirty (map (marked false path) work.debris) work.jobs
      (marked_takes is_read (task.Wipe path) false path rows work.dirty work.debris) ending.claimed;
  lent = ending.lent;
}

-- the rules once a task ended, whichever it was and however it ended
abbrev Ended : ℕ → (ℕ → Bool) → List Job → List (List (List ℕ)) → Option Lent → ℕ → Task → Outcome → Recorded → Book → WorkState → Type 0
Ended next is_read jobs loose o number begun out how book work =
    Ending next is_read jobs loose o (finish number begun out how book).book.rows (ended_work begun out (finish number begun out how book).reply work)

make_ends : (next : ℕ) (is_read : ℕ → Bool) (jobs : List Job) (loose : List (List (List ℕ))) (part : Option Lent) (number : ℕ) (path : List (List ℕ)) (stamp : ℕ) (out : Outcome) (how : Recorded)
    (book : Book) (work : WorkState) → IsMaking book.rows (task.Make path stamp) → (o : Option Row) → find (is_declared path stamp) book.rows ≡ o →
    Ending next is_read jobs (claimed_by_task (task.Make path stamp) ++ loose) part book.rows work →
    Ending next is_read jobs loose part (end_make number path out how book o).book.rows (made_work path out (end_make number path out how book o).reply work)
make_ends next is_read jobs loose part number path stamp out how book work making None found ending =
    ending_stale next is_read jobs path stamp loose part book.rows work ending
make_ends next is_read jobs loose part number path stamp out how book work making (Some row) found ending = by out
  where
    lying : HasLying book.rows path
    lying =
        let parts = and_parts (is_at_path path row) (row.stamp == stamp) (found_passes (is_declared path stamp) book.rows row found) in
        let among = found_contains (is_declared path stamp) book.rows row found in
        let rests = making row among (eqb-true row.stamp stamp parts.1) in
        (row, among, rests.0, rests.1)

    failed : Ending next is_read jobs loose part book.rows (record work { dirty = path ∷ work.dirty })
    failed = ending_failed next is_read jobs path stamp loose part book.rows work lying ending

    by : (end : Outcome) →
        Ending next is_read jobs loose part (end_make number path end how book (Some row)).book.rows (made_work path end (end_make number path end how book (Some row)).reply work)
    by outcome.Made = ending_made next is_read jobs path stamp loose part book.rows work ending
    by outcome.Wiped = failed
    by (outcome.Missing digest) = failed
    by (outcome.Corrupt wanted other) = failed
    by (outcome.Fault note) = failed
    by outcome.NoMemory = failed

task_ends : (next : ℕ) (is_read : ℕ → Bool) (jobs : List Job) (loose : List (List (List ℕ))) (part : Option Lent) (number : ℕ) (begun : Task) (out : Outcome) (how : Recorded)
    (book : Book) (work : WorkState) → IsMaking book.rows begun →
    ((path : List (List ℕ)) → begun ≡ task.Wipe path → (job : Job) → Contains work.jobs job → job.task ≡ task.Wipe path → ⊥) →
    Ending next is_read jobs (claimed_by_task begun ++ loose) part book.rows work → Ended next is_read jobs loose part number begun out how book work
task_ends next is_read jobs loose part number (task.Make path stamp) out how book work making alone ending =
    make_ends next is_read jobs loose part number path stamp out how book work making (find (is_declared path stamp) book.rows) refl ending
task_ends next is_read jobs loose part number (task.Wipe path) outcome.Wiped how book work making alone ending =
    ending_wiped next is_read jobs path loose part book.rows work (alone path refl) ending
task_ends next is_read jobs loose part number (task.Wipe path) outcome.Made how book work making alone ending =
    ending_marked next is_read jobs path loose part book.rows work ending
task_ends next is_read jobs loose part number (task.Wipe path) (outcome.Missing digest) how book work making alone ending =
    ending_marked next is_read jobs path loose part book.rows work ending
task_ends next is_read jobs loose part number (task.Wipe path) (outcome.Corrupt wanted found) how book work making alone ending =
    ending_marked next is_read jobs path loose part book.rows work ending
task_ends next is_read jobs loose part number (task.Wipe path) (outcome.Fault note) how book work making alone ending =
    ending_marked next is_read jobs path loose part book.rows work ending
task_ends next is_read jobs loose part number (task.Wipe path) outcome.NoMemory how book work making alone ending =
    ending_marked next is_read jobs path loose part book.rows work ending

-- ---- the part

-- the part comes back
part_returns : (next : ℕ) (is_read : ℕ → Bool) (jobs : List Job) (o : Option Lent) (rows : List Row) (work : WorkState) →
    ((stamp : ℕ) → are_reading jobs stamp ≡ false → (is_read stamp ≡ false) ⊎ (option_map_or (reads_stamp stamp) o false ≡ true)) →
    Ending next is_read jobs (claimed_by_part o) o rows work → Kept next rows (returned o rows work)
part_returns next is_read jobs None rows work cases ending = record {
  base = ending.base;
  order = ending.order;
  claimed = nothing_back is_read (are_reading work.jobs) rows work.dirty work.debris work.jobs ending.apart (λ stamp off. cases stamp (still stamp off)) ending.claimed;
}
  where
    still : (stamp : ℕ) → are_reading work.jobs stamp ≡ false → are_reading jobs stamp ≡ false
    still stamp off = subst (λ (js : List Job). are_reading js stamp ≡ false) ending.same off
part_returns next is_read jobs (Some part) rows work cases ending = by (list_any (has_stamp part.stamp) rows) refl
  where
    still : (stamp : ℕ) → are_reading work.jobs stamp ≡ false → are_reading jobs stamp ≡ false
    still stamp off = subst (λ (js : List Job). are_reading js stamp ≡ false) ending.same off

    new : Debris
    new = record { path = part.path; condemned = list_any (λ (stamp : ℕ). stamp == part.stamp) work.cleaned }

    by : (b : Bool) → list_any (has_stamp part.stamp) rows ≡ b → Kept next rows (cond b work (record work { debris = put_debris new work.debris }))
    by true there = record {
      base = ending.base;
      order = ending.order;
      claimed = part_back is_read (are_reading work.jobs) rows work.dirty work.debris work.jobs part ending.apart ending.lent (λ stamp off. cases stamp (still stamp off)) ending.claimed;
    }
    by false gone = record {
      base = debris_base next rows work.jobs work.dirty (map path_of_debris work.debris) (map path_of_debris (put_debris new work.debris)) ending.base
          (λ job among wiped is within. put_keeps new work.debris wiped within);
      order = put_apart new work.debris ending.order (λ x. let most = ending.claimed x in omega (arith, most));
      claimed = part_left is_read (are_reading work.jobs) rows work.dirty work.debris work.jobs part new.condemned ending.apart gone (λ stamp off. cases stamp (still stamp off)) ending.claimed;
    }

-- ---- the job

-- a job ended
pub kept_ended : (next number : ℕ) (job : Job) (out : Outcome) (how : Recorded) (book : Book) (work : WorkState) → are_apart book.rows ≡ true →
    running number work ≡ Some job → Kept next book.rows work →
    Kept next (finish next job.task out how book).book.rows
    (ended number out (finish next job.task out how book).reply (finish next job.task out how book).book.rows work (Some job))
kept_ended next number job out how book work apart runs kept =
    part_returns next (are_reading work.jobs) others.jobs job.lent (finish next job.task out how book).book.rows
    (ended_work job.task out (finish next job.task out how book).reply others) idle
    (task_ends next (are_reading work.jobs) others.jobs (claimed_by_part job.lent) job.lent next job.task out how book others rules.making alone (record {
      same = refl;
      apart = apart;
      base = drop_base next book.rows work.jobs work.dirty (map path_of_debris work.debris) (is_other_job number) kept.base;
      order = kept.order;
      claimed = λ x.
          let most = drop_claims number book.rows work.jobs work.dirty work.debris job runs kept.claimed x in
          omega (arith, most);
      lent = rules.lent;
    }))
  where
    others : WorkState
    others = record work { jobs = filter (is_other_job number) work.jobs }

    among : Contains work.jobs job
    among = found_contains (is_job number) work.jobs job runs

    rules : IsJob next book.rows (map path_of_debris work.debris) job
    rules = kept.base.each job among

    -- no other job wipes what it wipes
    alone : (path : List (List ℕ)) → job.task ≡ task.Wipe path → (other : Job) → Contains others.jobs other → other.task ≡ task.Wipe path → ⊥
    alone path is other also too =
        let (within, differs) = filtered_contains (is_other_job number) work.jobs other also in
        let same : other ≡ job = kept.base.wipes other job within among path too is in
        both_ways (is_job number other) (not-true (is_job number other) differs)
        (ap (is_job number) same ∙ found_passes (is_job number) work.jobs job runs)

    idle : (stamp : ℕ) → are_reading others.jobs stamp ≡ false →
        (are_reading work.jobs stamp ≡ false) ⊎ (option_map_or (reads_stamp stamp) job.lent false ≡ true)
    idle stamp off = idle_cases number work.jobs job stamp kept.base.numbers runs off
