-- Where nodes and rough paths may be as a job ends, and that what it gives back is at such a place.
use Rattle.std.proofs.Common.{◌≡◌, ◌≤◌, ℕ, ◌==◌, Bool, true, false, not, ◌||◌, ◌⊎◌, inl, inr, cond, List, [], ◌∷◌, Option, Some, None, refl, sym, ap, subst, ◌∙◌, map, Contains, arith}
use Rattle.std.specs.List.{filter, find, list_any}
use Rattle.std.proofs.lemmas.Bool.{and_parts, both_ways, eqb-true, false_from_ne_true, or_cases, or_left, or_right}
use Rattle.mat_path.specs.Covering.{covering}
use Rattle.mat_path.specs.Names.{is_prefix, same_names}
use Rattle.mat_path.proofs.CoveringLemmas.{covered_below, covered_by}
use Rattle.mat_path.proofs.Elements.{contains_filter, contains_first, contains_map, contains_more, mapped_contains}
use Rattle.mat_path.proofs.PathLemmas.{prefix-refl}
use Rattle.mat_path.proofs.SameNames.{same_names-eq}
use Rattle.mat_model.specs.declared.answers.Recorded.{Recorded}
use Rattle.mat_model.specs.declared.book.Book.{Book}
use Rattle.mat_model.specs.declared.book.Row.{Row}
use Rattle.mat_model.specs.declared.entries.Entry.{Entry}
use Rattle.mat_model.specs.declared.entries.Event.{Event}
use Rattle.mat_model.specs.declared.entries.Event.TheVariants as event
use Rattle.mat_model.specs.declared.entries.Outcome.{Outcome}
use Rattle.mat_model.specs.declared.entries.Outcome.TheVariants as outcome
use Rattle.mat_model.specs.declared.entries.Task.{Task}
use Rattle.mat_model.specs.declared.entries.Task.TheVariants as task
use Rattle.mat_model.specs.Gate.{Served}
use Rattle.mat_model.specs.History.{Point, after, answer, answer_done, next_number, recorded_as, work_after}
use Rattle.mat_model.specs.Rows.{is_at_path, standing_row}
use Rattle.mat_model.specs.Work.{end_make, finish, is_declared}
use Rattle.mat_model.specs.WorkState.{Debris, Job, Lent, WorkState, ended, ended_work, has_stamp, is_dirty, is_elsewhere, is_other_job, made_work, marked, path_of_debris, path_of_task, put_debris, refused, returned, running}
use Rattle.model_laws.specs.WorkRules.{IsJob, IsLentBy, IsMaking, IsWiping, IsWork, claimed_by_part, is_on_disk, loans, loans_of}
use Rattle.model_laws.proofs.BooksLists.{any_contains}
use Rattle.model_laws.proofs.Changes.{standing-path}
use Rattle.model_laws.proofs.Coverings.{covering-put, named_among, paths-map}
use Rattle.model_laws.proofs.Elements.{found_contains, found_passes}
use Rattle.model_laws.proofs.WorkEnds.{marked-path}
use Rattle.core_laws.specs.Covered.{AreKeptPlaces, node_places, rough_places}
use Rattle.core_laws.specs.Tied.{IsLeftBy}
use Rattle.core_laws.proofs.LoanLemmas.{is_running}
use Rattle.core_laws.proofs.PlacesLemmas.{Keep, debris_place, debris_rough, dirty_rough, grow_keeps, in_debris, row_place}
use Rattle.core_laws.proofs.PointMoves.{end_rows}

-- ---- what an end changes, at paths that it keeps

keep_all : (x : List (List ℕ)) (rows : List Row) (work : WorkState) → Keep x rows work rows work
keep_all x rows work = record { nodes = λ most. most; rough = λ most. most }

keep_more : (x : List (List ℕ)) (rows middle left : List Row) (work between other : WorkState) → Keep x rows work middle between →
    Keep x middle between left other → Keep x rows work left other
keep_more x rows middle left work between other first second = record {
  nodes = λ most. second.nodes (first.nodes most);
  rough = λ most. second.rough (first.rough most);
}

-- debris that comes covers its path, and what debris covered
put_covers : (x : List (List ℕ)) (new : Debris) (debris : List Debris) → is_prefix new.path x ≡ true → 1 ≤ covering x (map path_of_debris (put_debris new debris))
put_covers x new debris above =
    let one : ◌≡◌ {A = ℕ} (cond (is_prefix new.path x) 1 0) 1 = ap (λ b. cond {A = ℕ} b 1 0) above in
    omega (arith, covering-put x new debris, one)

put_keeps : (x : List (List ℕ)) (rows : List Row) (work : WorkState) (new : Debris) → Keep x rows work rows (record work { debris = put_debris new work.debris })
put_keeps x rows work new =
    grow_keeps x rows work rows (record work { debris = put_debris new work.debris }) (record {
      rows_stay = λ row among on above. inl (record { new = row; among = among; path = refl; on = on });
      dirty_stays = λ p among above. inl among;
      debris_stays = λ most. let more = covering-put x new work.debris in omega (arith, most, more);
    })

stand_keeps : (x path : List (List ℕ)) (rows : List Row) (work : WorkState) → Keep x rows work (map (standing_row path) rows) work
stand_keeps x path rows work =
    grow_keeps x rows work (map (standing_row path) rows) work (record {
      rows_stay = λ row among on above. inl (record {
        new = standing_row path row;
        among = contains_map (standing_row path) rows row among;
        path = standing-path path row;
        on = elim (is_at_path path row) as (λ b. is_on_disk work (cond {A = Row} b (record row { stands = true }) row) ≡ true) [ true ↦ refl | false ↦ on ];
      });
      dirty_stays = λ p among above. inl among;
      debris_stays = λ most. most;
    })

fail_keeps : (x path : List (List ℕ)) (rows : List Row) (work : WorkState) → Keep x rows work rows (record work { dirty = path ∷ work.dirty })
fail_keeps x path rows work =
    grow_keeps x rows work rows (record work { dirty = path ∷ work.dirty }) (record {
      rows_stay = λ row among on above. inl (record { new = row; among = among; path = refl; on = still row (or_cases row.stands (is_dirty work.dirty row.path) on) });
      dirty_stays = λ p among above. inl (contains_more path work.dirty p among);
      debris_stays = λ most. most;
    })
  where
    still : (row : Row) → (row.stands ≡ true) ⊎ (is_dirty work.dirty row.path ≡ true) → (row.stands || is_dirty (path ∷ work.dirty) row.path) ≡ true
    still row (inl stands) = or_left row.stands (is_dirty (path ∷ work.dirty) row.path) stands
    still row (inr dirty) =
        or_right row.stands (is_dirty (path ∷ work.dirty) row.path)
        (or_right (same_names row.path path) (is_dirty work.dirty row.path) dirty)

wipe_keeps : (x path : List (List ℕ)) (rows : List Row) (work : WorkState) → is_prefix path x ≡ false →
    Keep x rows work rows (record work { debris = filter (is_elsewhere path) work.debris })
wipe_keeps x path rows work aside =
    grow_keeps x rows work rows (record work { debris = filter (is_elsewhere path) work.debris }) (record {
      rows_stay = λ row among on above. inl (record { new = row; among = among; path = refl; on = on });
      dirty_stays = λ p among above. inl among;
      debris_stays = loose;
    })
  where
    loose : 1 ≤ in_debris x work → 1 ≤ covering x (map path_of_debris (filter (is_elsewhere path) work.debris))
    loose most =
        let (p, among, above) = covered_by x (map path_of_debris work.debris) most in
        let (one, within, named) = mapped_contains path_of_debris work.debris p among in
        let here : is_prefix one.path x ≡ true = subst (λ (q : List (List ℕ)). is_prefix q x ≡ true) (sym named) above in
        covered_below one.path x (map path_of_debris (filter (is_elsewhere path) work.debris))
        (contains_map path_of_debris (filter (is_elsewhere path) work.debris) one
        (contains_filter (is_elsewhere path) work.debris one
        (ap not (false_from_ne_true (same_names one.path path)
        (λ same. both_ways (is_prefix path x) aside (subst (λ (q : List (List ℕ)). is_prefix q x ≡ true) (same_names-eq one.path path same) here)))) within)) here

marks : (path : List (List ℕ)) (work : WorkState) → map path_of_debris (map (marked false path) work.debris) ≡ map path_of_debris work.debris
marks path work = paths-map (marked false path) (marked-path false path) work.debris

mark_keeps : (x path : List (List ℕ)) (rows : List Row) (work : WorkState) → Keep x rows work rows (record work { debris = map (marked false path) work.debris })
mark_keeps x path rows work =
    grow_keeps x rows work rows (record work { debris = map (marked false path) work.debris }) (record {
      rows_stay = λ row among on above. inl (record { new = row; among = among; path = refl; on = on });
      dirty_stays = λ p among above. inl among;
      debris_stays = λ most. subst (λ (ps : List (List (List ℕ))). 1 ≤ covering x ps) (sym (marks path work)) most;
    })

-- ---- the task ends

make_keeps : (x : List (List ℕ)) (number : ℕ) (path : List (List ℕ)) (out : Outcome) (how : Recorded) (book : Book) (work : WorkState) (o : Option Row) →
    Keep x book.rows work (end_make number path out how book o).book.rows (made_work path out (end_make number path out how book o).reply work)
make_keeps x number path out how book work None = put_keeps x book.rows work (record { path = path; condemned = false })
make_keeps x number path outcome.Made how book work (Some row) = stand_keeps x path book.rows work
make_keeps x number path outcome.Wiped how book work (Some row) = fail_keeps x path book.rows work
make_keeps x number path (outcome.Missing digest) how book work (Some row) = fail_keeps x path book.rows work
make_keeps x number path (outcome.Corrupt wanted found) how book work (Some row) = fail_keeps x path book.rows work
make_keeps x number path (outcome.Fault note) how book work (Some row) = fail_keeps x path book.rows work
make_keeps x number path outcome.NoMemory how book work (Some row) = fail_keeps x path book.rows work

task_keeps : (x : List (List ℕ)) (number : ℕ) (begun : Task) (out : Outcome) (how : Recorded) (book : Book) (work : WorkState) →
    is_prefix (path_of_task begun) x ≡ false →
    Keep x book.rows work (finish number begun out how book).book.rows (ended_work begun out (finish number begun out how book).reply work)
task_keeps x number (task.Make path stamp) out how book work aside = make_keeps x number path out how book work (find (is_declared path stamp) book.rows)
task_keeps x number (task.Wipe path) outcome.Wiped how book work aside = wipe_keeps x path book.rows work aside
task_keeps x number (task.Wipe path) outcome.Made how book work aside = mark_keeps x path book.rows work
task_keeps x number (task.Wipe path) (outcome.Missing digest) how book work aside = mark_keeps x path book.rows work
task_keeps x number (task.Wipe path) (outcome.Corrupt wanted found) how book work aside = mark_keeps x path book.rows work
task_keeps x number (task.Wipe path) (outcome.Fault note) how book work aside = mark_keeps x path book.rows work
task_keeps x number (task.Wipe path) outcome.NoMemory how book work aside = mark_keeps x path book.rows work

-- ---- the part comes back

back_keeps : (x : List (List ℕ)) (lent : Option Lent) (rows : List Row) (work : WorkState) → Keep x rows work rows (returned lent rows work)
back_keeps x None rows work = keep_all x rows work
back_keeps x (Some lent) rows work = by (list_any (has_stamp lent.stamp) rows)
  where
    by : (b : Bool) → Keep x rows work rows (cond {A = WorkState} b work (record work {
      debris = put_debris (record { path = lent.path; condemned = list_any (λ (stamp : ℕ). stamp == lent.stamp) work.cleaned }) work.debris;
    }))
    by true = keep_all x rows work
    by false = put_keeps x rows work (record { path = lent.path; condemned = list_any (λ (stamp : ℕ). stamp == lent.stamp) work.cleaned })

-- ---- the end of a job

-- what the end of a job leaves of a point, by what is known of rows and work state
end_by : (point : Point) (entry : Entry) (number : ℕ) (out : Outcome) (job : Job) (P : List Row → WorkState → Type 0) → entry.event ≡ event.Done number out →
    running number point.work ≡ Some job →
    P (finish (next_number point) job.task out (recorded_as entry.reply) point.book).book.rows
    (returned job.lent (finish (next_number point) job.task out (recorded_as entry.reply) point.book).book.rows
    (ended_work job.task out (finish (next_number point) job.task out (recorded_as entry.reply) point.book).reply
    (record point.work { jobs = filter (is_other_job number) point.work.jobs }))) →
    P (after point entry).book.rows (after point entry).work
end_by point entry number out job P is runs holds =
    subst (λ (e : Event). P (answer point entry.now e entry.reply).book.rows (work_after point entry.by.caller e (answer point entry.now e entry.reply))) (sym is)
    (subst (λ (o : Option Job). P (answer_done point out entry.reply o).book.rows
    (ended number out (answer_done point out entry.reply o).reply (answer_done point out entry.reply o).book.rows point.work o)) (sym runs) holds)

end_keeps : (point : Point) (entry : Entry) (number : ℕ) (out : Outcome) (job : Job) (x : List (List ℕ)) → entry.event ≡ event.Done number out →
    running number point.work ≡ Some job → is_prefix (path_of_task job.task) x ≡ false →
    Keep x point.book.rows point.work (after point entry).book.rows (after point entry).work
end_keeps point entry number out job x is runs aside =
    end_by point entry number out job (λ left other. Keep x point.book.rows point.work left other) is runs (record { nodes = all.nodes; rough = all.rough })
  where
    others : WorkState
    others = record point.work { jobs = filter (is_other_job number) point.work.jobs }

    served : Served
    served = finish (next_number point) job.task out (recorded_as entry.reply) point.book

    all : Keep x point.book.rows others served.book.rows (returned job.lent served.book.rows (ended_work job.task out served.reply others))
    all =
        keep_more x point.book.rows served.book.rows served.book.rows others (ended_work job.task out served.reply others)
        (returned job.lent served.book.rows (ended_work job.task out served.reply others))
        (task_keeps x (next_number point) job.task out (recorded_as entry.reply) point.book others aside)
        (back_keeps x job.lent served.book.rows (ended_work job.task out served.reply others))

-- the path of a job's task is a loan
task_aside : (number : ℕ) (work : WorkState) (job : Job) (x : List (List ℕ)) → running number work ≡ Some job →
    ((loan : List (List ℕ)) → Contains (loans work.jobs) loan → is_prefix loan x ≡ false) → is_prefix (path_of_task job.task) x ≡ false
task_aside number work job x runs aside =
    aside (path_of_task job.task)
    (named_among loans_of work.jobs job (path_of_task job.task) (is_running number work.jobs job runs).among
    (contains_first (path_of_task job.task) (claimed_by_part job.lent)))

pub end_nodes : (point : Point) (entry : Entry) (number : ℕ) (out : Outcome) (job : Job) → entry.event ≡ event.Done number out →
    running number point.work ≡ Some job →
    AreKeptPlaces (loans point.work.jobs) (node_places point.book.rows point.work) (node_places (after point entry).book.rows (after point entry).work)
end_nodes point entry number out job is runs =
    λ x aside most. (end_keeps point entry number out job x is runs (task_aside number point.work job x runs aside)).nodes most

pub end_rough : (point : Point) (entry : Entry) (number : ℕ) (out : Outcome) (job : Job) → entry.event ≡ event.Done number out →
    running number point.work ≡ Some job → AreKeptPlaces (loans point.work.jobs) (rough_places point.work) (rough_places (after point entry).work)
end_rough point entry number out job is runs =
    λ x aside most. (end_keeps point entry number out job x is runs (task_aside number point.work job x runs aside)).rough most

-- ---- what comes back is at a place

-- a row is on the disk that is at a path, or debris at it
make_place : (number : ℕ) (path : List (List ℕ)) (stamp : ℕ) (out : Outcome) (how : Recorded) (book : Book) (work : WorkState) (o : Option Row) →
    find (is_declared path stamp) book.rows ≡ o →
    1 ≤ covering path (node_places (end_make number path out how book o).book.rows (made_work path out (end_make number path out how book o).reply work))
make_place number path stamp out how book work None found =
    debris_place path book.rows (record work { debris = put_debris (record { path = path; condemned = false }) work.debris })
    (put_covers path (record { path = path; condemned = false }) work.debris (prefix-refl path))
make_place number path stamp out how book work (Some row) found = by out
  where
    among : Contains book.rows row
    among = found_contains (is_declared path stamp) book.rows row found

    at : is_at_path path row ≡ true
    at = (and_parts (is_at_path path row) (row.stamp == stamp) (found_passes (is_declared path stamp) book.rows row found)).0

    same : row.path ≡ path
    same = same_names-eq row.path path at

    above : is_prefix row.path path ≡ true
    above = subst (λ (p : List (List ℕ)). is_prefix p path ≡ true) (sym same) (prefix-refl path)

    made : 1 ≤ covering path (node_places (map (standing_row path) book.rows) work)
    made =
        row_place path (map (standing_row path) book.rows) work (standing_row path row) (contains_map (standing_row path) book.rows row among)
        (ap (λ b. is_on_disk work (cond {A = Row} b (record row { stands = true }) row)) at)
        (subst (λ (p : List (List ℕ)). is_prefix p path ≡ true) (sym (standing-path path row)) above)

    failed : 1 ≤ covering path (node_places book.rows (record work { dirty = path ∷ work.dirty }))
    failed =
        row_place path book.rows (record work { dirty = path ∷ work.dirty }) row among
        (or_right row.stands (is_dirty (path ∷ work.dirty) row.path) (or_left (same_names row.path path) (is_dirty work.dirty row.path) at)) above

    by : (end : Outcome) →
        1 ≤ covering path (node_places (end_make number path end how book (Some row)).book.rows (made_work path end (end_make number path end how book (Some row)).reply work))
    by outcome.Made = made
    by outcome.Wiped = failed
    by (outcome.Missing digest) = failed
    by (outcome.Corrupt wanted other) = failed
    by (outcome.Fault note) = failed
    by outcome.NoMemory = failed

-- a make that didn't make its row leaves a place of rough paths
make_rough : (number : ℕ) (path : List (List ℕ)) (out : Outcome) (how : Recorded) (book : Book) (work : WorkState) (o : Option Row) →
    (out ≡ outcome.Made) ⊎ (1 ≤ covering path (rough_places (made_work path out (end_make number path out how book o).reply work)))
make_rough number path out how book work None =
    inr (debris_rough path (record work { debris = put_debris (record { path = path; condemned = false }) work.debris })
    (put_covers path (record { path = path; condemned = false }) work.debris (prefix-refl path)))
make_rough number path out how book work (Some row) = by out
  where
    failed : 1 ≤ covering path (rough_places (record work { dirty = path ∷ work.dirty }))
    failed = dirty_rough path (record work { dirty = path ∷ work.dirty }) path (contains_first path work.dirty) (prefix-refl path)

    by : (end : Outcome) →
        (end ≡ outcome.Made) ⊎ (1 ≤ covering path (rough_places (made_work path end (end_make number path end how book (Some row)).reply work)))
    by outcome.Made = inl refl
    by outcome.Wiped = inr failed
    by (outcome.Missing digest) = inr failed
    by (outcome.Corrupt wanted other) = inr failed
    by (outcome.Fault note) = inr failed
    by outcome.NoMemory = inr failed

-- the same once the part came back that the job read
pub end_make_place : (point : Point) (entry : Entry) (number : ℕ) (out : Outcome) (job : Job) (path : List (List ℕ)) (stamp : ℕ) →
    entry.event ≡ event.Done number out → running number point.work ≡ Some job → job.task ≡ task.Make path stamp →
    1 ≤ covering path (node_places (after point entry).book.rows (after point entry).work)
end_make_place point entry number out job path stamp is runs makes =
    end_by point entry number out job (λ left other. 1 ≤ covering path (node_places left other)) is runs
    ((back_keeps path job.lent served.book.rows (ended_work job.task out served.reply others)).nodes here)
  where
    others : WorkState
    others = record point.work { jobs = filter (is_other_job number) point.work.jobs }

    served : Served
    served = finish (next_number point) job.task out (recorded_as entry.reply) point.book

    here : 1 ≤ covering path (node_places served.book.rows (ended_work job.task out served.reply others))
    here =
        subst (λ (t : Task). 1 ≤ covering path (node_places (finish (next_number point) t out (recorded_as entry.reply) point.book).book.rows
        (ended_work t out (finish (next_number point) t out (recorded_as entry.reply) point.book).reply others))) (sym makes)
        (make_place (next_number point) path stamp out (recorded_as entry.reply) point.book others (find (is_declared path stamp) point.book.rows) refl)

pub end_make_rough : (point : Point) (entry : Entry) (number : ℕ) (out : Outcome) (job : Job) (path : List (List ℕ)) (stamp : ℕ) →
    entry.event ≡ event.Done number out → running number point.work ≡ Some job → job.task ≡ task.Make path stamp →
    (out ≡ outcome.Made) ⊎ (1 ≤ covering path (rough_places (after point entry).work))
end_make_rough point entry number out job path stamp is runs makes =
    elim here [
      | inl made ↦ inl made
      | inr most ↦ inr (end_by point entry number out job (λ left other. 1 ≤ covering path (rough_places other)) is runs
          ((back_keeps path job.lent served.book.rows (ended_work job.task out served.reply others)).rough most))
    ]
  where
    others : WorkState
    others = record point.work { jobs = filter (is_other_job number) point.work.jobs }

    served : Served
    served = finish (next_number point) job.task out (recorded_as entry.reply) point.book

    here : (out ≡ outcome.Made) ⊎ (1 ≤ covering path (rough_places (ended_work job.task out served.reply others)))
    here =
        subst (λ (t : Task). (out ≡ outcome.Made) ⊎ (1 ≤ covering path (rough_places
        (ended_work t out (finish (next_number point) t out (recorded_as entry.reply) point.book).reply others)))) (sym makes)
        (make_rough (next_number point) path out (recorded_as entry.reply) point.book others (find (is_declared path stamp) point.book.rows))

-- a wipe that failed leaves its debris
wipe_place : (number : ℕ) (path : List (List ℕ)) (out : Outcome) (how : Recorded) (book : Book) (work : WorkState) → Contains (map path_of_debris work.debris) path →
    (out ≡ outcome.Wiped) ⊎ (1 ≤ in_debris path (ended_work (task.Wipe path) out (finish number (task.Wipe path) out how book).reply work))
wipe_place number path out how book work among = by out
  where
    still : 1 ≤ covering path (map path_of_debris (map (marked false path) work.debris))
    still =
        subst (λ (ps : List (List (List ℕ))). 1 ≤ covering path ps) (sym (marks path work))
        (covered_below path path (map path_of_debris work.debris) among (prefix-refl path))

    by : (end : Outcome) → (end ≡ outcome.Wiped) ⊎ (1 ≤ in_debris path (ended_work (task.Wipe path) end (finish number (task.Wipe path) end how book).reply work))
    by outcome.Made = inr still
    by outcome.Wiped = inl refl
    by (outcome.Missing digest) = inr still
    by (outcome.Corrupt wanted other) = inr still
    by (outcome.Fault note) = inr still
    by outcome.NoMemory = inr still

pub end_wipe_place : (point : Point) (entry : Entry) (number : ℕ) (out : Outcome) (job : Job) (path : List (List ℕ)) →
    IsWork (next_number point) point.book.rows point.work → entry.event ≡ event.Done number out → running number point.work ≡ Some job →
    job.task ≡ task.Wipe path →
    (out ≡ outcome.Wiped)
    ⊎ ((1 ≤ covering path (node_places (after point entry).book.rows (after point entry).work)) × (1 ≤ covering path (rough_places (after point entry).work)))
end_wipe_place point entry number out job path rules is runs wipes =
    elim here [
      | inl wiped ↦ inl wiped
      | inr most ↦ inr (
        end_by point entry number out job (λ left other. 1 ≤ covering path (node_places left other)) is runs
            (kept.nodes (debris_place path served.book.rows (ended_work job.task out served.reply others) most)),
        end_by point entry number out job (λ left other. 1 ≤ covering path (rough_places other)) is runs
            (kept.rough (debris_rough path (ended_work job.task out served.reply others) most)),
      )
    ]
  where
    others : WorkState
    others = record point.work { jobs = filter (is_other_job number) point.work.jobs }

    served : Served
    served = finish (next_number point) job.task out (recorded_as entry.reply) point.book

    kept : Keep path served.book.rows (ended_work job.task out served.reply others) served.book.rows
        (returned job.lent served.book.rows (ended_work job.task out served.reply others))
    kept = back_keeps path job.lent served.book.rows (ended_work job.task out served.reply others)

    here : (out ≡ outcome.Wiped) ⊎ (1 ≤ in_debris path (ended_work job.task out served.reply others))
    here =
        subst (λ (t : Task). (out ≡ outcome.Wiped) ⊎ (1 ≤ in_debris path
        (ended_work t out (finish (next_number point) t out (recorded_as entry.reply) point.book).reply others))) (sym wipes)
        (wipe_place (next_number point) path out (recorded_as entry.reply) point.book others
        (subst (IsWiping (map path_of_debris point.work.debris)) wipes
        (rules.jobs job (is_running number point.work.jobs job runs).among).wiping))

-- a part that came back is that of its row, which stands, or debris
part_place : (part : Lent) (rows : List Row) (work : WorkState) →
    ((row : Row) → Contains rows row → row.stamp ≡ part.stamp → (row.path ≡ part.path) × (row.stands ≡ true)) →
    1 ≤ covering part.path (node_places rows (returned (Some part) rows work))
part_place part rows work lender = by (list_any (has_stamp part.stamp) rows) refl
  where
    back : Debris
    back = record { path = part.path; condemned = list_any (λ (stamp : ℕ). stamp == part.stamp) work.cleaned }

    there : (row : Row) → Contains rows row → (row.path ≡ part.path) × (row.stands ≡ true) → 1 ≤ covering part.path (node_places rows work)
    there row among from =
        row_place part.path rows work row among (or_left row.stands (is_dirty work.dirty row.path) from.1)
        (subst (λ (p : List (List ℕ)). is_prefix p part.path ≡ true) (sym from.0) (prefix-refl part.path))

    by : (b : Bool) → list_any (has_stamp part.stamp) rows ≡ b →
        1 ≤ covering part.path (node_places rows (cond {A = WorkState} b work (record work { debris = put_debris back work.debris })))
    by true some =
        let (row, among, same) = any_contains (has_stamp part.stamp) rows some in
        there row among (lender row among (eqb-true row.stamp part.stamp same))
    by false none =
        debris_place part.path rows (record work { debris = put_debris back work.debris }) (put_covers part.path back work.debris (prefix-refl part.path))

pub end_part_place : (point : Point) (entry : Entry) (number : ℕ) (out : Outcome) (job : Job) (part : Lent) →
    IsWork (next_number point) point.book.rows point.work → entry.event ≡ event.Done number out → running number point.work ≡ Some job →
    job.lent ≡ Some part → 1 ≤ covering part.path (node_places (after point entry).book.rows (after point entry).work)
end_part_place point entry number out job part rules is runs lends =
    end_by point entry number out job
    (λ left other. ((row : Row) → Contains left row → IsLeftBy point.book.rows job row) → 1 ≤ covering part.path (node_places left other)) is runs
    (λ each. subst (λ (o : Option Lent). 1 ≤ covering part.path (node_places served.book.rows
    (returned o served.book.rows (ended_work job.task out served.reply others)))) (sym lends)
    (part_place part served.book.rows (ended_work job.task out served.reply others) (λ row among same. lender row same (each row among))))
    (λ row among. end_rows point entry number out job row rules.apart is runs among)
  where
    others : WorkState
    others = record point.work { jobs = filter (is_other_job number) point.work.jobs }

    served : Served
    served = finish (next_number point) job.task out (recorded_as entry.reply) point.book

    running_job : IsJob (next_number point) point.book.rows (map path_of_debris point.work.debris) job
    running_job = rules.jobs job (is_running number point.work.jobs job runs).among

    lender : (row : Row) → row.stamp ≡ part.stamp → IsLeftBy point.book.rows job row → (row.path ≡ part.path) × (row.stands ≡ true)
    lender row same was =
        let from = subst (IsLentBy point.book.rows) lends running_job.lent was.old was.among (sym was.same.stamp ∙ same) in
        (was.same.path ∙ from.path, stands from.stands was.stands)
      where
        stands : was.old.stands ≡ true → (row.stands ≡ was.old.stands) ⊎ (job.task ≡ task.Make row.path row.stamp) → row.stands ≡ true
        stands stood (inl stays) = stays ∙ stood
        stands stood (inr makes) =
            let rests = subst (IsMaking point.book.rows) makes running_job.making was.old was.among (sym was.same.stamp) in
            let lies = rests.1 in
            absurd cc

-- ---- a begin that was refused

refused_keeps : (x : List (List ℕ)) (begun : Task) (rows : List Row) (work : WorkState) → Keep x rows work rows (refused begun work)
refused_keeps x (task.Make path stamp) rows work = keep_all x rows work
refused_keeps x (task.Wipe path) rows work = mark_keeps x path rows work

pub refused_nodes : (begun : Task) (rows : List Row) (work : WorkState) (path : List (List ℕ)) → 1 ≤ covering path (node_places rows work) →
    1 ≤ covering path (node_places rows (refused begun work))
refused_nodes begun rows work path most = (refused_keeps path begun rows work).nodes most

pub refused_rough : (begun : Task) (work : WorkState) (path : List (List ℕ)) → 1 ≤ covering path (rough_places work) →
    1 ≤ covering path (rough_places (refused begun work))
refused_rough begun work path most = (refused_keeps path begun [] work).rough most
