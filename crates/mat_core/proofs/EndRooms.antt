-- The end of a job, and what was reserved for it: it may be entered, and what the other jobs need stays reserved.
use Rattle.std.proofs.Common.{◌≡◌, ◌≤◌, ◌+◌, ◌==◌, ℕ, Bool, true, false, not, ◌||◌, cond, List, [], ◌∷◌, ◌++◌, filter, length, length-append, Contains, Option, Some, None, refl, sym, ap, ap₂, subst, ◌∙◌, arith}
use Rattle.std.specs.List.{list_any}
use Rattle.std.specs.Option.{option_map}
use Rattle.std.specs.Vec.{vec_capacity}
use Rattle.std.proofs.lemmas.Bool.{both_ways, eq-eqb, false_from_ne_true, not-true}
use Rattle.hall_lock.specs.declared.By.{By}
use Rattle.mat_path.proofs.Elements.{contains_filter, contains_first, contains_map, contains_more, filtered_contains, none_passes, each_fails}
use Rattle.mat_path.proofs.Overlaps.{overlap-refl}
use Rattle.mat_path.proofs.SameNames.{same_names-eq}
use Rattle.mat_path.specs.Names.{overlap, same_names}
use Rattle.mat_model.specs.declared.answers.Answer.{Answer}
use Rattle.mat_model.specs.declared.answers.Recorded.{Recorded}
use Rattle.mat_model.specs.declared.entries.Outcome.{Outcome}
use Rattle.mat_model.specs.declared.entries.Task.{Task}
use Rattle.mat_model.specs.declared.entries.Task.TheVariants as task
use Rattle.mat_model.specs.History.{Point, next_number}
use Rattle.mat_model.specs.WorkState.{Debris, Job, is_elsewhere, is_other_job, marked, path_of_task}
use Rattle.model_laws.specs.TicketRules.{failure_of_make}
use Rattle.model_laws.specs.WorkRules.{claimed_by_job, claimed_by_part, claimed_by_task}
use Rattle.model_laws.proofs.BooksLists.{any_contains, contains_any}
use Rattle.model_laws.proofs.ClaimLemmas.{debris_unclaimed, loans_apart, own_loans_apart}
use Rattle.model_laws.proofs.Elements.{found_contains, found_passes}
use Rattle.model_laws.proofs.RoomLists.{any_mapped, one_less}
use Rattle.debris_list.specs.Pieces.{overlaps_debris}
use Rattle.kept_book.specs.Marks.{is_reserved}
use Rattle.kept_book.specs.Marks.{is_other as is_other_path}
use Rattle.job_book.proofs.NumberLemmas.{jobs_left}
use Rattle.job_book.specs.Jobs.{job_of, jobs_of, lent_of}
use Rattle.job_book.specs.Numbers.{is_number, is_other}
use Rattle.job_book.specs.declared.running.LentPart.{LentPart}
use Rattle.job_book.specs.declared.running.Running.{Running}
use Rattle.mat_core.specs.Ending.{HasPlace, IsDoneEntered, IsPartApart, MayEnter, MayFall, WasRunning, debris_ended, end_of, end_of_wipe, places_ended}
use Rattle.mat_core.specs.Rooms.{HasReserves, IsReservedFor}
use Rattle.mat_core.specs.declared.ending.End.{End}
use Rattle.mat_core.specs.declared.ending.End.TheVariants as end
use Rattle.mat_core.specs.declared.parts.Parts.{Parts}
use Rattle.mat_core.proofs.FallLemmas.{any_put_debris}

-- ---- debris

-- no debris overlaps a path where none of some pieces does
filter_none : {A : Type 0} (test keep : A → Bool) (xs : List A) → list_any test xs ≡ false → list_any test (filter keep xs) ≡ false
filter_none test keep xs none =
    none_passes test (filter keep xs) (λ x among. each_fails test xs x none (filtered_contains keep xs x among).0)

marked_over : (place path : List (List ℕ)) (condemned : Bool) (debris : Debris) → overlaps_debris place (marked condemned path debris) ≡ overlaps_debris place debris
marked_over place path condemned debris =
    elim (same_names debris.path path) as (λ b. overlaps_debris place (cond b (record debris { condemned = condemned }) debris) ≡ overlaps_debris place debris)
    [ true ↦ refl | false ↦ refl ]

-- nor does it behind a task that ended, whose path it doesn't overlap
ended_none : (place path : List (List ℕ)) (ending : End) (debris : List Debris) → overlap path place ≡ false →
    list_any (overlaps_debris place) debris ≡ false → list_any (overlaps_debris place) (debris_ended path ending debris) ≡ false
ended_none place path (end.Stands stamp sum last) debris apart none = none
ended_none place path (end.Failed given) debris apart none = none
ended_none place path end.Gone debris apart none =
    any_put_debris (overlaps_debris place) (record { path = path; condemned = false }) debris ∙ ap₂ (λ (a b : Bool). a || b) apart none
ended_none place path end.Wiped debris apart none = filter_none (overlaps_debris place) (is_elsewhere path) debris none
ended_none place path (end.Unwiped given) debris apart none =
    any_mapped (overlaps_debris place) (marked false path) (marked_over place path false) debris ∙ none

-- what becomes debris may, where no debris overlaps the path of a make
may_fall : (path : List (List ℕ)) (ending : End) (debris : List Debris) → list_any (overlaps_debris path) debris ≡ false → MayFall path ending debris
may_fall path (end.Stands stamp sum last) debris none = tt
may_fall path (end.Failed given) debris none = tt
may_fall path end.Gone debris none = none
may_fall path end.Wiped debris none = tt
may_fall path (end.Unwiped given) debris none = tt

wipe_falls : (path : List (List ℕ)) (failure : Option Answer) (debris : List Debris) → MayFall path (end_of_wipe failure) debris
wipe_falls path None debris = tt
wipe_falls path (Some given) debris = tt

-- ---- places

has_place : (path : List (List ℕ)) (ending : End) (reserved : List (List (List ℕ))) → is_reserved reserved path ≡ true → HasPlace path ending reserved
has_place path (end.Stands stamp sum last) reserved is = is
has_place path (end.Failed given) reserved is = tt
has_place path end.Gone reserved is = tt
has_place path end.Wiped reserved is = tt
has_place path (end.Unwiped given) reserved is = tt

wipe_places : (path : List (List ℕ)) (failure : Option Answer) (reserved : List (List (List ℕ))) → HasPlace path (end_of_wipe failure) reserved
wipe_places path None reserved = tt
wipe_places path (Some given) reserved = tt

-- a place at another path stays reserved
place_stays : (path at : List (List ℕ)) (reserved : List (List (List ℕ))) → overlap path at ≡ false → is_reserved reserved at ≡ true →
    is_reserved (filter (is_other_path path) reserved) at ≡ true
place_stays path at reserved apart is =
    let (one, among, same) = any_contains (same_names at) reserved is in
    contains_any (same_names at) (filter (is_other_path path) reserved) one
    (contains_filter (is_other_path path) reserved one
    (ap not
    (false_from_ne_true (same_names path one)
    (λ equal.
    both_ways (overlap path at) apart
    (subst (λ (p : List (List ℕ)). overlap path p ≡ true) (same_names-eq path one equal ∙ sym (same_names-eq at one same)) (overlap-refl path))))) among) same

places_stay : (path at : List (List ℕ)) (ending : End) (reserved : List (List (List ℕ))) → overlap path at ≡ false → is_reserved reserved at ≡ true →
    is_reserved (places_ended path ending reserved) at ≡ true
places_stay path at (end.Stands stamp sum last) reserved apart is = place_stays path at reserved apart is
places_stay path at (end.Failed given) reserved apart is = place_stays path at reserved apart is
places_stay path at end.Gone reserved apart is = place_stays path at reserved apart is
places_stay path at end.Wiped reserved apart is = is
places_stay path at (end.Unwiped given) reserved apart is = is

-- ---- a job that ends

module _ {D K : Type 0} (number : ℕ) (running : Running) (out : Outcome) (old : Parts D K) (was : WasRunning number running old) where
  abbrev point : Point
  point = was.rules.point

  run_among : Contains was.before.jobs was.whole
  run_among = found_contains (is_number running.card.job) was.before.jobs was.whole was.found

  ran_among : Contains (jobs_of was.before.jobs) (job_of running)
  ran_among =
      subst (λ (r : Running). Contains (jobs_of was.before.jobs) (job_of r)) (sym was.same) (contains_map job_of was.before.jobs was.whole run_among)

  job_among : Contains point.work.jobs (job_of running)
  job_among = subst (λ js. Contains js (job_of running)) was.rules.stands.work.jobs ran_among

  some_jobs : 1 ≤ length was.before.jobs
  some_jobs = let (k, within, at) = run_among in omega (arith, within)

  -- one job is less
  fewer_jobs : length old.jobs + 1 ≤ length was.before.jobs
  fewer_jobs =
      subst (λ (p : Parts D K). length p.jobs + 1 ≤ length was.before.jobs) (sym was.only)
      (one_less (is_number running.card.job) (is_other running.card.job) (λ other. refl) was.before.jobs
      (contains_any (is_number running.card.job) was.before.jobs was.whole run_among (found_passes (is_number running.card.job) was.before.jobs was.whole was.found)))

  same_debris : old.debris ≡ was.before.debris
  same_debris = ap (λ (p : Parts D K). p.debris) was.only

  -- no debris overlaps what the job claims
  claim_free : (p : List (List ℕ)) → Contains (claimed_by_job (job_of running)) p → list_any (overlaps_debris p) old.debris.list ≡ false
  claim_free p claimed =
      subst (λ ds. list_any (overlaps_debris p) ds ≡ false) (sym (ap (λ d. d.list) same_debris ∙ was.rules.stands.work.debris))
      (none_passes (overlaps_debris p) point.work.debris
      (λ debris among. debris_unclaimed (next_number point) point.book.rows point.work debris (job_of running) p was.rules.rules.work among job_among claimed))

  falls : (begun : Task) → running.card.task ≡ begun → MayFall (path_of_task begun) (end_of old.rows begun out) old.debris.list
  falls (task.Make path stamp) is =
      may_fall path (end_of old.rows (task.Make path stamp) out) old.debris.list
      (claim_free path (subst (λ (t : Task). Contains (claimed_by_task t ++ claimed_by_part (job_of running).lent) path) (sym is) (contains_first path _)))
  falls (task.Wipe path) is = wipe_falls path (failure_of_make out) old.debris.list

  places : (begun : Task) → running.card.task ≡ begun → HasPlace (path_of_task begun) (end_of old.rows begun out) old.kept.reserved
  places (task.Make path stamp) is =
      has_place path (end_of old.rows (task.Make path stamp) out) old.kept.reserved
      (subst (λ (p : Parts D K). is_reserved p.kept.reserved path ≡ true) (sym was.only)
      (subst (IsReservedFor was.before.kept.reserved) is
      (was.reserves.places (job_of running) ran_among)))
  places (task.Wipe path) is = wipe_places path (failure_of_make out) old.kept.reserved

  part_apart : (lent : Option LentPart) → running.lent ≡ lent →
      IsPartApart lent (debris_ended (path_of_task running.card.task) (end_of old.rows running.card.task out) old.debris.list)
  part_apart None is = tt
  part_apart (Some part) is =
      ended_none part.path (path_of_task running.card.task) (end_of old.rows running.card.task out) old.debris.list
      (own_loans_apart (next_number point) point.book.rows point.work (job_of running) (lent_of part) was.rules.rules.work job_among (ap (option_map lent_of) is))
      (claim_free part.path (claimed running.card.task))
    where
      last : Contains (claimed_by_part (option_map lent_of running.lent)) part.path
      last = subst (λ (o : Option LentPart). Contains (claimed_by_part (option_map lent_of o)) part.path) (sym is) (contains_first part.path [])

      claimed : (begun : Task) → Contains (claimed_by_task begun ++ claimed_by_part (option_map lent_of running.lent)) part.path
      claimed (task.Make path stamp) = contains_more path (claimed_by_part (option_map lent_of running.lent)) part.path last
      claimed (task.Wipe path) = last

  -- its end may be entered
  pub may_enter : MayEnter running out old
  may_enter = record {
    entry =
        let has = was.reserves.history in
        let same : length old.history.items ≡ length was.before.history.items = ap (λ (p : Parts D K). length p.history.items) was.only in
        let room : vec_capacity old.history ≡ vec_capacity was.before.history = ap (λ (p : Parts D K). vec_capacity p.history) was.only in
        omega (arith, has, same, room, some_jobs);
    room =
        let has = was.reserves.debris in
        let same : old.debris.spare ≡ was.before.debris.spare = ap (λ d. d.spare) same_debris in
        omega (arith, has, same, some_jobs);
    apart = falls running.card.task refl;
    part = part_apart running.lent refl;
    place = places running.card.task refl;
  }

  module _ (by : By) (how : Recorded) (new : Parts D K) (entered : IsDoneEntered number by running out how old new) where
    same_jobs : new.jobs ≡ old.jobs
    same_jobs = ap (λ (p : Parts D K). p.jobs) entered.only ∙ ap (λ (p : Parts D K). p.jobs) entered.ended.only

    old_jobs : jobs_of old.jobs ≡ filter (is_other_job running.card.job) (jobs_of was.before.jobs)
    old_jobs = jobs_left running.card.job was.before.jobs old.jobs (ap (λ (p : Parts D K). p.jobs) was.only)

    then_places : new.kept.reserved ≡ places_ended (path_of_task running.card.task) (end_of old.rows running.card.task out) was.before.kept.reserved
    then_places =
        ap (λ (p : Parts D K). p.kept.reserved) entered.only ∙ entered.ended.places
        ∙ ap (places_ended (path_of_task running.card.task) (end_of old.rows running.card.task out)) (ap (λ (p : Parts D K). p.kept.reserved) was.only)

    -- the place of another make stays reserved
    place_left : (job : Job) → Contains (jobs_of new.jobs) job → (begun : Task) → job.task ≡ begun → IsReservedFor new.kept.reserved begun
    place_left job among (task.Wipe path) is = tt
    place_left job among (task.Make path stamp) is =
        let parts = filtered_contains (is_other_job running.card.job) (jobs_of was.before.jobs) job
        (subst (λ js. Contains js job) (ap jobs_of same_jobs ∙ old_jobs) among) in
        subst (λ rs. is_reserved rs path ≡ true) (sym then_places)
        (places_stay (path_of_task running.card.task) path (end_of old.rows running.card.task out) was.before.kept.reserved
        (loans_apart (next_number point) point.book.rows point.work (job_of running) job (path_of_task running.card.task) path was.rules.rules.work job_among
        (subst (λ js. Contains js job) was.rules.stands.work.jobs parts.0)
        (λ same. both_ways (job.number == running.card.job) (not-true (job.number == running.card.job) parts.1) (eq-eqb job.number running.card.job (sym same)))
        (contains_first (path_of_task running.card.task) (claimed_by_part (job_of running).lent))
        (subst (λ (t : Task). Contains (path_of_task t ∷ claimed_by_part job.lent) path) (sym is) (contains_first path (claimed_by_part job.lent))))
        (subst (IsReservedFor was.before.kept.reserved) is (was.reserves.places job parts.0)))

    -- and what the other jobs need
    pub end_reserves : HasReserves new
    end_reserves = record {
      history =
          let has = was.reserves.history in
          let entries : length new.history.items ≡ length old.history.items + 1 = ap length entered.history ∙ length-append old.history.items _ in
          let same : length old.history.items ≡ length was.before.history.items = ap (λ (p : Parts D K). length p.history.items) was.only in
          let room : vec_capacity new.history ≡ vec_capacity was.before.history =
          entered.capacity ∙ ap (λ (p : Parts D K). vec_capacity p.history) was.only in
          let jobs : length new.jobs ≡ length old.jobs = ap length same_jobs in
          let live : length new.gate.live ≡ length was.before.gate.live =
          ap (λ (p : Parts D K). length p.gate.live) entered.only ∙ ap (λ (p : Parts D K). length p.gate.live) entered.ended.only
          ∙ ap (λ (p : Parts D K). length p.gate.live) was.only in
          let waiting : length new.gate.waiting ≡ length was.before.gate.waiting =
          ap (λ (p : Parts D K). length p.gate.waiting) entered.only ∙ ap (λ (p : Parts D K). length p.gate.waiting) entered.ended.only
          ∙ ap (λ (p : Parts D K). length p.gate.waiting) was.only in
          omega (arith, has, entries, same, room, jobs, live, waiting, fewer_jobs);
      debris =
          let has = was.reserves.debris in
          let same : old.debris.spare ≡ was.before.debris.spare = ap (λ d. d.spare) same_debris in
          let jobs : length new.jobs ≡ length old.jobs = ap length same_jobs in
          let first = entered.ended.spare in
          let second = entered.spare in
          omega (arith, has, same, jobs, first, second, fewer_jobs);
      places = λ job among. place_left job among job.task refl;
    }
