-- Where nodes and rough paths may be, as requests come and jobs begin: what was at or below a place is so still, but for what is out.
use Rattle.std.proofs.Common.{◌≡◌, ◌≤◌, ◌<◌, ℕ, ◌+◌, Bool, true, false, not, ◌&&◌, ◌||◌, ◌⊎◌, inl, inr, cond, List, [], ◌∷◌, Option, Some, None, refl, sym, ap, subst, ◌∙◌, map, Contains, arith}
use Rattle.std.specs.List.{filter, list_any}
use Rattle.std.specs.Option.{option_map_or}
use Rattle.std.proofs.lemmas.Bool.{and_from, both_ways, eqb-true, false_from_ne_true, not-true, or_cases, or_left, or_right}
use Rattle.std.proofs.lemmas.List.Elements.{All-contains, Contains-append_cases}
use Rattle.mat_path.specs.Covering.{covering}
use Rattle.mat_path.specs.Names.{is_prefix, overlap, same_names}
use Rattle.mat_path.proofs.CoveringLemmas.{covered_below, covered_by, covering-append, contains_among}
use Rattle.mat_path.proofs.CoveringRows.{among_rows}
use Rattle.mat_path.proofs.Elements.{contains_filter, contains_first, contains_map, contains_more, filtered_contains, mapped_contains}
use Rattle.mat_path.proofs.Overlaps.{overlap-sym}
use Rattle.mat_path.proofs.PathLemmas.{prefix-trans}
use Rattle.mat_path.proofs.SameNames.{same_names-eq}
use Rattle.mat_model.specs.declared.answers.Reply.{Reply}
use Rattle.mat_model.specs.declared.book.Row.{Row}
use Rattle.mat_model.specs.declared.entries.Entry.{Entry}
use Rattle.mat_model.specs.declared.entries.Event.{Event}
use Rattle.mat_model.specs.declared.entries.Event.TheVariants as event
use Rattle.mat_model.specs.declared.entries.Task.TheVariants as task
use Rattle.mat_model.specs.declared.requests.Asked.{Asked}
use Rattle.mat_model.specs.History.{Point, after, next_number, work_after}
use Rattle.mat_model.specs.Openings.{path_of_row}
use Rattle.mat_model.specs.Rows.{are_apart, is_at_path}
use Rattle.mat_model.specs.WorkState.{Debris, Job, Lent, WorkState, cleans_all, condemn, condemned_all, has_loan, has_stamp, is_cleaning, is_dirty, is_gone, is_kept_dirty, is_lent, is_not_below, is_stray, leaves_debris, lends_at, path_of_debris, path_of_task, removed_rows, started, work_asked}
use Rattle.model_laws.specs.Laws.{declares}
use Rattle.model_laws.specs.RowRules.{AreStampedBelow, served_at}
use Rattle.model_laws.specs.WorkRules.{IsWork, claimed_by_part, is_on_disk, loans, loans_of}
use Rattle.model_laws.proofs.BooksLists.{any_contains}
use Rattle.model_laws.proofs.ClaimLemmas.{disk_own_loan}
use Rattle.model_laws.proofs.Coverings.{covering-add, named_among, paths-map, row_covers}
use Rattle.model_laws.proofs.StampLemmas.{one_stamp}
use Rattle.model_laws.proofs.WorkBase.{Steps, at_one_path, lying_row, was_there}
use Rattle.model_laws.proofs.WorkKept.{asked_steps}
use Rattle.core_laws.specs.Covered.{AreKeptAside, AreKeptPlaces, node_places, rough_places}

-- ---- places that grow

-- how often a path is covered by debris
abbrev pub in_debris : List (List ℕ) → WorkState → ℕ
in_debris x work = covering x (map path_of_debris work.debris)

-- a row that was on the disk is so still
pub record IsOnDiskStill (left : List Row) (other : WorkState) (row : Row) : Type 0 where
  pub new : Row
  pub among : Contains left new
  pub path : new.path ≡ row.path
  pub on : is_on_disk other new ≡ true

-- what is above a path is kept, or is debris then
pub record Grow (x : List (List ℕ)) (rows : List Row) (work : WorkState) (left : List Row) (other : WorkState) : Type 0 where
  pub rows_stay : (row : Row) → Contains rows row → is_on_disk work row ≡ true → is_prefix row.path x ≡ true →
      IsOnDiskStill left other row ⊎ (1 ≤ in_debris x other)
  pub dirty_stays : (p : List (List ℕ)) → Contains work.dirty p → is_prefix p x ≡ true → Contains other.dirty p ⊎ (1 ≤ in_debris x other)
  pub debris_stays : 1 ≤ in_debris x work → 1 ≤ in_debris x other

-- the places of nodes, and those of rough paths, cover a path still
pub record Keep (x : List (List ℕ)) (rows : List Row) (work : WorkState) (left : List Row) (other : WorkState) : Type 0 where
  pub nodes : 1 ≤ covering x (node_places rows work) → 1 ≤ covering x (node_places left other)
  pub rough : 1 ≤ covering x (rough_places work) → 1 ≤ covering x (rough_places other)

-- a row on the disk, and debris, are places of nodes
pub row_place : (x : List (List ℕ)) (rows : List Row) (work : WorkState) (row : Row) → Contains rows row → is_on_disk work row ≡ true →
    is_prefix row.path x ≡ true → 1 ≤ covering x (node_places rows work)
row_place x rows work row among on above =
    let most = row_covers (is_on_disk work) x rows row among on above in
    omega (arith, most, covering-append x (map path_of_row (filter (is_on_disk work) rows)) (map path_of_debris work.debris))

pub debris_place : (x : List (List ℕ)) (rows : List Row) (work : WorkState) → 1 ≤ in_debris x work → 1 ≤ covering x (node_places rows work)
debris_place x rows work most =
    omega (arith, most, covering-append x (map path_of_row (filter (is_on_disk work) rows)) (map path_of_debris work.debris))

-- a dirty path, and debris, are places of rough paths
pub dirty_rough : (x : List (List ℕ)) (work : WorkState) (p : List (List ℕ)) → Contains work.dirty p → is_prefix p x ≡ true → 1 ≤ covering x (rough_places work)
dirty_rough x work p among above =
    let most = covered_below p x work.dirty among above in omega (arith, most, covering-append x work.dirty (map path_of_debris work.debris))

pub debris_rough : (x : List (List ℕ)) (work : WorkState) → 1 ≤ in_debris x work → 1 ≤ covering x (rough_places work)
debris_rough x work most = omega (arith, most, covering-append x work.dirty (map path_of_debris work.debris))

pub grow_keeps : (x : List (List ℕ)) (rows : List Row) (work : WorkState) (left : List Row) (other : WorkState) → Grow x rows work left other →
    Keep x rows work left other
grow_keeps x rows work left other grow = record { nodes = nodes; rough = rough }
  where
    row_case : (row : Row) → is_prefix row.path x ≡ true → IsOnDiskStill left other row ⊎ (1 ≤ in_debris x other) → 1 ≤ covering x (node_places left other)
    row_case row above (inl still) =
        row_place x left other still.new still.among still.on (subst (λ (p : List (List ℕ)). is_prefix p x ≡ true) (sym still.path) above)
    row_case row above (inr debris) = debris_place x left other debris

    nodes : 1 ≤ covering x (node_places rows work) → 1 ≤ covering x (node_places left other)
    nodes most =
        let (p, among, above) = covered_by x (node_places rows work) most in
        elim (Contains-append_cases (map path_of_row (filter (is_on_disk work) rows)) (map path_of_debris work.debris) p among) [
          | inl mine ↦
              let (row, within, on, named) = among_rows path_of_row (is_on_disk work) rows p mine in
              let here : is_prefix row.path x ≡ true = subst (λ (q : List (List ℕ)). is_prefix q x ≡ true) (sym named) above in
              row_case row here (grow.rows_stay row within on here)
          | inr loose ↦ debris_place x left other (grow.debris_stays (covered_below p x (map path_of_debris work.debris) loose above))
        ]

    rough : 1 ≤ covering x (rough_places work) → 1 ≤ covering x (rough_places other)
    rough most =
        let (p, among, above) = covered_by x (rough_places work) most in
        elim (Contains-append_cases work.dirty (map path_of_debris work.debris) p among) [
          | inl mine ↦ elim (grow.dirty_stays p mine above) [
            | inl still ↦ dirty_rough x other p still above
            | inr debris ↦ debris_rough x other debris
          ]
          | inr loose ↦ debris_rough x other (grow.debris_stays (covered_below p x (map path_of_debris work.debris) loose above))
        ]

-- ---- requests

-- the dirty paths and the debris after a request that left some rows
record Asks (rows left : List Row) (work other : WorkState) : Type 0 where
  dirty : other.dirty ≡ filter (is_kept_dirty (removed_rows rows left)) work.dirty
  debris : (x : List (List ℕ)) → in_debris x other ≡ in_debris x work + covering x (map path_of_row (filter (leaves_debris work) (removed_rows rows left)))

condemned_path : (jobs : List Job) (debris : Debris) → (condemn jobs debris).path ≡ debris.path
condemned_path jobs debris =
    elim (is_stray jobs debris) as (λ b. (cond b (record debris { condemned = true }) debris).path ≡ debris.path) [ true ↦ refl | false ↦ refl ]

asks_of : (request : Asked) (said : Reply) (rows left : List Row) (work : WorkState) → Asks rows left work (work_asked request said rows left work)
asks_of request said rows left work = record {
  dirty = elim (cleans_all request && is_cleaning said)
      as (λ b. filter (is_kept_dirty (removed_rows rows left)) (cond {A = WorkState} b (condemned_all work) work).dirty
      ≡ filter (is_kept_dirty (removed_rows rows left)) work.dirty) [ true ↦ refl | false ↦ refl ];
  debris = λ x. covering-add x (is_cleaning said) _ _ ∙ loose x;
}
  where
    gone : WorkState → List (List (List ℕ))
    gone w = map path_of_row (filter (leaves_debris w) (removed_rows rows left))

    loose : (x : List (List ℕ)) →
        covering x (map path_of_debris (cond {A = WorkState} (cleans_all request && is_cleaning said) (condemned_all work) work).debris)
        + covering x (gone (cond {A = WorkState} (cleans_all request && is_cleaning said) (condemned_all work) work))
        ≡ in_debris x work + covering x (gone work)
    loose x =
        elim (cleans_all request && is_cleaning said)
        as (λ b. covering x (map path_of_debris (cond {A = WorkState} b (condemned_all work) work).debris)
        + covering x (gone (cond {A = WorkState} b (condemned_all work) work)) ≡ in_debris x work + covering x (gone work)) [
          | true ↦ ap (λ (ps : List (List (List ℕ))). covering x ps + covering x (gone work))
              (paths-map (condemn work.jobs) (condemned_path work.jobs) work.debris)
          | false ↦ refl
        ]

-- a loan of a job that overlaps a path
has_cases : (path : List (List ℕ)) (job : Job) → has_loan path job ≡ true → (p : List (List ℕ)) × Contains (loans_of job) p × (overlap p path ≡ true)
has_cases path job has =
    elim (or_cases (overlap (path_of_task job.task) path) (option_map_or (lends_at path) job.lent false) has) [
      | inl here ↦ (path_of_task job.task, contains_first (path_of_task job.task) (claimed_by_part job.lent), here)
      | inr part ↦ by job.lent part
    ]
  where
    by : (o : Option Lent) → option_map_or (lends_at path) o false ≡ true →
        (p : List (List ℕ)) × Contains (path_of_task job.task ∷ claimed_by_part o) p × (overlap p path ≡ true)
    by None is = absurd cc
    by (Some part) is = (part.path, contains_more (path_of_task job.task) (part.path ∷ []) part.path (contains_first part.path []), is)

-- a row on the disk whose path isn't out overlaps no loan
not_out : (next : ℕ) (rows : List Row) (work : WorkState) (row : Row) (x : List (List ℕ)) → IsWork next rows work → Contains rows row →
    is_on_disk work row ≡ true → is_prefix row.path x ≡ true → ((loan : List (List ℕ)) → Contains (loans work.jobs) loan → is_prefix loan x ≡ false) →
    is_lent row.path work.jobs ≡ false
not_out next rows work row x rules among on above aside =
    false_from_ne_true (is_lent row.path work.jobs)
    (λ lent.
    let (job, within, has) = any_contains (has_loan row.path) work.jobs lent in
    let (p, named, meet) = has_cases row.path job has in
    let own = disk_own_loan next rows work row job p rules among on within named (overlap-sym p row.path true meet) in
    both_ways (is_prefix p x) (aside p (named_among loans_of work.jobs job p within named))
    (subst (λ (q : List (List ℕ)). is_prefix q x ≡ true) (sym own.path) above))

-- a row that is left under the stamp of one that was there is at its path, and stands as it did
record Remains (left : List Row) (row : Row) : Type 0 where
  new : Row
  among : Contains left new
  path : new.path ≡ row.path
  stands : new.stands ≡ row.stands

remains : (next : ℕ) (place : Option (List (List ℕ))) (rows left : List Row) (row : Row) → AreStampedBelow next rows → Steps next place rows left →
    Contains rows row → list_any (has_stamp row.stamp) left ≡ true → Remains left row
remains next place rows left row stamped steps there some =
    let (new, among, same) = any_contains (has_stamp row.stamp) left some in
    let stamp : new.stamp ≡ row.stamp = eqb-true new.stamp row.stamp same in
    let early : row.stamp < next = All-contains (λ (r : Row). r.stamp < next) rows row stamped.below there in
    let was = was_there next place rows new (steps new among) (omega (arith, stamp, early)) in
    let one : was.old ≡ row = one_stamp rows was.old row stamped.differ was.among there (sym was.stamp ∙ stamp) in
    record { new = new; among = among; path = was.path ∙ ap (λ (r : Row). r.path) one; stands = was.stands ∙ ap (λ (r : Row). r.stands) one }

-- a dirty path whose row is left stays dirty
stays_dirty : (rows left : List Row) (dirty : List (List (List ℕ))) (row : Row) → are_apart rows ≡ true → Contains rows row →
    list_any (has_stamp row.stamp) left ≡ true → Contains dirty row.path → Contains (filter (is_kept_dirty (removed_rows rows left)) dirty) row.path
stays_dirty rows left dirty row apart there some among =
    contains_filter (is_kept_dirty (removed_rows rows left)) dirty row.path
    (ap not (false_from_ne_true (list_any (is_at_path row.path) (removed_rows rows left))
    (λ any.
    let (other, gone, at) = any_contains (is_at_path row.path) (removed_rows rows left) any in
    let was = filtered_contains (is_gone left) rows other gone in
    let one : other ≡ row = at_one_path rows other row apart was.0 there (same_names-eq other.path row.path at) in
    both_ways (list_any (has_stamp row.stamp) left) (not-true (list_any (has_stamp row.stamp) left) (ap (is_gone left) (sym one) ∙ was.1)) some)))
    among

-- a dirty path is among them
dirty_among : (dirty : List (List (List ℕ))) (path : List (List ℕ)) → is_dirty dirty path ≡ true → Contains dirty path
dirty_among dirty path is =
    let (p, among, same) = any_contains (same_names path) dirty is in
    subst (λ (q : List (List ℕ)). Contains dirty q) (sym (same_names-eq path p same)) among

asked_grows : (next : ℕ) (place : Option (List (List ℕ))) (rows left : List Row) (work other : WorkState) (x : List (List ℕ)) → IsWork next rows work →
    Steps next place rows left → Asks rows left work other → ((loan : List (List ℕ)) → Contains (loans work.jobs) loan → is_prefix loan x ≡ false) →
    Grow x rows work left other
asked_grows next place rows left work other x rules steps asks aside = record {
  rows_stay = λ row among on above. row_stays row among on above (list_any (has_stamp row.stamp) left) refl;
  dirty_stays = dirty_stays;
  debris_stays = λ most. let more = asks.debris x in omega (arith, most, more);
}
  where
    removed : (row : Row) → Contains rows row → is_on_disk work row ≡ true → is_prefix row.path x ≡ true → list_any (has_stamp row.stamp) left ≡ false →
        1 ≤ in_debris x other
    removed row among on above gone =
        let more = asks.debris x in
        let here = row_covers (leaves_debris work) x (removed_rows rows left) row (contains_filter (is_gone left) rows row (ap not gone) among)
        (and_from (row.stands || is_dirty work.dirty row.path) (not (is_lent row.path work.jobs)) on
        (ap not (not_out next rows work row x rules among on above aside))) above in
        omega (arith, more, here)

    kept : (row : Row) → Contains rows row → list_any (has_stamp row.stamp) left ≡ true → Contains work.dirty row.path → Contains other.dirty row.path
    kept row among some dirty =
        subst (λ (ps : List (List (List ℕ))). Contains ps row.path) (sym asks.dirty) (stays_dirty rows left work.dirty row rules.apart among some dirty)

    still : (row : Row) → Contains rows row → list_any (has_stamp row.stamp) left ≡ true → (row.stands ≡ true) ⊎ (is_dirty work.dirty row.path ≡ true) →
        Remains left row → IsOnDiskStill left other row
    still row among some (inl stands) stays = record {
      new = stays.new;
      among = stays.among;
      path = stays.path;
      on = or_left stays.new.stands (is_dirty other.dirty stays.new.path) (stays.stands ∙ stands);
    }
    still row among some (inr dirty) stays = record {
      new = stays.new;
      among = stays.among;
      path = stays.path;
      on = or_right stays.new.stands (is_dirty other.dirty stays.new.path)
          (subst (λ (p : List (List ℕ)). is_dirty other.dirty p ≡ true) (sym stays.path)
          (contains_among row.path other.dirty (kept row among some (dirty_among work.dirty row.path dirty))));
    }

    row_stays : (row : Row) → Contains rows row → is_on_disk work row ≡ true → is_prefix row.path x ≡ true → (b : Bool) →
        list_any (has_stamp row.stamp) left ≡ b → IsOnDiskStill left other row ⊎ (1 ≤ in_debris x other)
    row_stays row among on above true some =
        inl (still row among some (or_cases row.stands (is_dirty work.dirty row.path) on) (remains next place rows left row rules.stamped steps among some))
    row_stays row among on above false gone = inr (removed row among on above gone)

    dirty_case : (p : List (List ℕ)) → Contains work.dirty p → is_prefix p x ≡ true → (row : Row) → Contains rows row → row.path ≡ p → (b : Bool) →
        list_any (has_stamp row.stamp) left ≡ b → Contains other.dirty p ⊎ (1 ≤ in_debris x other)
    dirty_case p among above row within at true some =
        inl (subst (λ (q : List (List ℕ)). Contains other.dirty q) at
        (kept row within some (subst (λ (q : List (List ℕ)). Contains work.dirty q) (sym at) among)))
    dirty_case p among above row within at false gone =
        inr (removed row within
        (or_right row.stands (is_dirty work.dirty row.path)
        (contains_among row.path work.dirty (subst (λ (q : List (List ℕ)). Contains work.dirty q) (sym at) among)))
        (subst (λ (q : List (List ℕ)). is_prefix q x ≡ true) (sym at) above) gone)

    dirty_stays : (p : List (List ℕ)) → Contains work.dirty p → is_prefix p x ≡ true → Contains other.dirty p ⊎ (1 ≤ in_debris x other)
    dirty_stays p among above =
        let (row, within, at, lies) = lying_row rows p (rules.dirty p among) in
        dirty_case p among above row within at (list_any (has_stamp row.stamp) left) refl

request_grows : (point : Point) (entry : Entry) (request : Asked) (x : List (List ℕ)) → IsWork (next_number point) point.book.rows point.work →
    entry.event ≡ event.Asked request → ((loan : List (List ℕ)) → Contains (loans point.work.jobs) loan → is_prefix loan x ≡ false) →
    Keep x point.book.rows point.work (after point entry).book.rows (after point entry).work
request_grows point entry request x rules is aside =
    grow_keeps x point.book.rows point.work (after point entry).book.rows (after point entry).work
    (asked_grows (next_number point) (declares request) point.book.rows (after point entry).book.rows point.work (after point entry).work x rules
    (asked_steps point entry request rules.apart is)
    (subst (λ (e : Event). Asks point.book.rows (after point entry).book.rows point.work (work_after point entry.by.caller e (served_at point entry))) (sym is)
    (asks_of request (served_at point entry).reply point.book.rows (after point entry).book.rows point.work)) aside)

pub request_nodes : (point : Point) (entry : Entry) (request : Asked) → IsWork (next_number point) point.book.rows point.work →
    entry.event ≡ event.Asked request →
    AreKeptPlaces (loans point.work.jobs) (node_places point.book.rows point.work) (node_places (after point entry).book.rows (after point entry).work)
request_nodes point entry request rules is = λ x aside most. (request_grows point entry request x rules is aside).nodes most

pub request_rough : (point : Point) (entry : Entry) (request : Asked) → IsWork (next_number point) point.book.rows point.work →
    entry.event ≡ event.Asked request → AreKeptPlaces (loans point.work.jobs) (rough_places point.work) (rough_places (after point entry).work)
request_rough point entry request rules is = λ x aside most. (request_grows point entry request x rules is aside).rough most

-- ---- begins

begun_grows : (number caller : ℕ) (path : List (List ℕ)) (stamp : ℕ) (rows : List Row) (work : WorkState) (x : List (List ℕ)) → is_prefix path x ≡ false →
    Keep x rows work rows (started number caller (task.Make path stamp) rows work)
begun_grows number caller path stamp rows work x aside =
    grow_keeps x rows work rows (started number caller (task.Make path stamp) rows work) (record {
      rows_stay = λ row among on above. inl (record { new = row; among = among; path = refl; on = still row above (or_cases row.stands (is_dirty work.dirty row.path) on) });
      dirty_stays = λ p among above. inl (kept p among above);
      debris_stays = loose;
    })
  where
    other : List (List ℕ) → Bool
    other p = not (same_names p path)

    differs : (p : List (List ℕ)) → is_prefix p x ≡ true → same_names p path ≡ false
    differs p above =
        false_from_ne_true (same_names p path)
        (λ same. both_ways (is_prefix path x) aside (subst (λ (q : List (List ℕ)). is_prefix q x ≡ true) (same_names-eq p path same) above))

    kept : (p : List (List ℕ)) → Contains work.dirty p → is_prefix p x ≡ true → Contains (filter other work.dirty) p
    kept p among above = contains_filter other work.dirty p (ap not (differs p above)) among

    still : (row : Row) → is_prefix row.path x ≡ true → (row.stands ≡ true) ⊎ (is_dirty work.dirty row.path ≡ true) →
        (row.stands || is_dirty (filter other work.dirty) row.path) ≡ true
    still row above (inl stands) = or_left row.stands (is_dirty (filter other work.dirty) row.path) stands
    still row above (inr dirty) =
        or_right row.stands (is_dirty (filter other work.dirty) row.path)
        (contains_among row.path (filter other work.dirty) (kept row.path (dirty_among work.dirty row.path dirty) above))

    loose : 1 ≤ in_debris x work → 1 ≤ covering x (map path_of_debris (filter (is_not_below path) work.debris))
    loose most =
        let (p, among, above) = covered_by x (map path_of_debris work.debris) most in
        let (one, within, named) = mapped_contains path_of_debris work.debris p among in
        covered_below p x (map path_of_debris (filter (is_not_below path) work.debris))
        (subst (λ (q : List (List ℕ)). Contains (map path_of_debris (filter (is_not_below path) work.debris)) q) named
        (contains_map path_of_debris (filter (is_not_below path) work.debris) one
        (contains_filter (is_not_below path) work.debris one
        (ap not (false_from_ne_true (is_prefix path one.path)
        (λ under. both_ways (is_prefix path x) aside
        (prefix-trans path one.path x under (subst (λ (q : List (List ℕ)). is_prefix q x ≡ true) (sym named) above))))) within))) above

pub begin_nodes : (number caller : ℕ) (path : List (List ℕ)) (stamp : ℕ) (rows : List Row) (work : WorkState) →
    AreKeptAside path (node_places rows work) (node_places rows (started number caller (task.Make path stamp) rows work))
begin_nodes number caller path stamp rows work = λ x aside most. (begun_grows number caller path stamp rows work x aside).nodes most

pub begin_rough : (number caller : ℕ) (path : List (List ℕ)) (stamp : ℕ) (rows : List Row) (work : WorkState) →
    AreKeptAside path (rough_places work) (rough_places (started number caller (task.Make path stamp) rows work))
begin_rough number caller path stamp rows work = λ x aside most. (begun_grows number caller path stamp rows work x aside).rough most
