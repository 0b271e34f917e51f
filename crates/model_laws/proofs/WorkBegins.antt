-- The rules of a work state after a request, and after a job began or couldn't begin.
use Rattle.std.proofs.Common.{◌≡◌, ℕ, ◌+◌, ◌<◌, ◌==◌, Bool, true, false, not, ◌||◌, inl, inr, List, [], ◌∷◌, Option, Some, None, cond, refl, sym, ap, subst, ◌∙◌, map, find, Contains, arith}
use Rattle.std.specs.List.{filter}
use Rattle.std.specs.Option.{option_map, option_map_or}
use Rattle.std.proofs.lemmas.Bool.{and_parts, both_ways, eqb-true, not-true, or_left, or_parts}
use Rattle.std.proofs.lemmas.List.Elements.{All-contains}
use Rattle.mat_path.specs.Covering.{covering}
use Rattle.mat_path.specs.Names.{is_prefix, overlap, same_names}
use Rattle.mat_path.proofs.Elements.{contains_cases, contains_filter, contains_first, contains_map, contains_more, each_fails, filtered_contains, mapped_contains}
use Rattle.mat_path.proofs.Overlaps.{overlap-refl}
use Rattle.mat_path.proofs.SameNames.{same_names-eq}
use Rattle.mat_model.specs.declared.book.Book.{Book}
use Rattle.mat_model.specs.declared.book.Row.{Row}
use Rattle.mat_model.specs.declared.entries.Task.{Task}
use Rattle.mat_model.specs.declared.entries.Task.TheVariants as task
use Rattle.mat_model.specs.Rows.{are_apart, comes_before, is_at_path}
use Rattle.mat_model.specs.Work.{is_declared}
use Rattle.mat_model.specs.WorkState.{Debris, Job, Lent, Way, WayOf, WorkState, add_debris, condemn, condemned_all, copied, has_loan, held, is_dirty, is_kept_dirty, is_lent, is_not_below, is_stray, leaves_debris, lent_by, lends_at, lent_of, marked, path_of_debris, path_of_task, put_debris, refused, removed_rows, started, stands_as, store, way_of, without_removed}
use Rattle.model_laws.specs.FirstRules.{MakeMayBegin, WipeMayBegin}
use Rattle.model_laws.specs.RowRules.{AreStampedBelow}
use Rattle.model_laws.specs.WorkRules.{IsJob, IsLender, IsLentBy, IsPartBelow, IsWork, are_reading, owns_by}
use Rattle.model_laws.proofs.BooksLists.{contains_any}
use Rattle.model_laws.proofs.Coverings.{covering-add, covering_claims, paths-map}
use Rattle.model_laws.proofs.DebrisOrder.{Ascends, add_ascends, ascends-map}
use Rattle.model_laws.proofs.KeptOrder.{ascends_filtered}
use Rattle.model_laws.proofs.Elements.{found_contains, found_passes}
use Rattle.model_laws.proofs.StampLemmas.{one_stamp}
use Rattle.model_laws.proofs.WorkBase.{Base, Steps, base_of, step_base}
use Rattle.model_laws.proofs.WorkClaims.{Claimed, MayLend, make_claims, owns_lying, owns_standing, step_claims, unlent_unread, wipe_claims}
use Rattle.model_laws.proofs.WorkEnds.{marked-path}
use Rattle.model_laws.proofs.WorkMoves.{debris_base, later_base, push_base}

-- the rules of a work state but for those of the rows alone
pub record Kept (next : ℕ) (rows : List Row) (work : WorkState) : Type 0 where
  pub base : Base next rows work.jobs work.dirty (map path_of_debris work.debris)
  pub order : Ascends work.debris
  pub claimed : Claimed (are_reading work.jobs) [] rows work.dirty work.debris work.jobs

pub kept_of : (next : ℕ) (rows : List Row) (work : WorkState) → IsWork next rows work → Kept next rows work
kept_of next rows work rules = record {
  base = base_of next rows work rules;
  order = rules.order;
  claimed = λ x. omega (arith, rules.claims x, covering_claims x rows work);
}

pub work_of : (next : ℕ) (rows : List Row) (work : WorkState) → are_apart rows ≡ true → AreStampedBelow next rows → Kept next rows work → IsWork next rows work
work_of next rows work apart stamped kept = record {
  apart = apart;
  stamped = stamped;
  numbers = kept.base.numbers;
  jobs = kept.base.each;
  wipes = kept.base.wipes;
  dirty = kept.base.lying;
  order = kept.order;
  claims = λ x. let most = kept.claimed x in omega (arith, most, covering_claims x rows work);
}

-- the next number is greater
pub kept_later : (next : ℕ) (rows : List Row) (work : WorkState) → Kept next rows work → Kept (next + 1) rows work
kept_later next rows work kept = record {
  base = later_base next rows work.jobs work.dirty (map path_of_debris work.debris) kept.base;
  order = kept.order;
  claimed = kept.claimed;
}

-- debris gets or loses marks
pub kept_marked : (next : ℕ) (rows : List Row) (work : WorkState) (f : Debris → Debris) → ((debris : Debris) → (f debris).path ≡ debris.path) →
    Kept next rows work → Kept next rows (record work { debris = map f work.debris })
kept_marked next rows work f keeps kept =
    let same : map path_of_debris (map f work.debris) ≡ map path_of_debris work.debris = paths-map f keeps work.debris in record {
      base = subst (λ (ps : List (List (List ℕ))). Base next rows work.jobs work.dirty ps) (sym same) kept.base;
      order = ascends-map f keeps work.debris ∙ kept.order;
      claimed = λ x. let most = kept.claimed x in omega (arith, most, ap (covering x) same);
    }

-- ---- a request

-- debris stays where more is put among it
pub put_keeps : (new : Debris) (debris : List Debris) (path : List (List ℕ)) → Contains (map path_of_debris debris) path →
    Contains (map path_of_debris (put_debris new debris)) path
put_keeps new [] path (k, within, at) = absurd (omega arith)
put_keeps new (first ∷ debris) path among =
    elim (comes_before new.path first.path) as (λ b. Contains (map path_of_debris (cond b (new ∷ first ∷ debris) (first ∷ put_debris new debris))) path) [
      | true ↦ contains_more new.path (map path_of_debris (first ∷ debris)) path among
      | false ↦
          elim (contains_cases first.path (map path_of_debris debris) path among) [
            | inl same ↦
                subst (λ (p : List (List ℕ)). Contains (map path_of_debris (first ∷ put_debris new debris)) p) same
                (contains_first first.path (map path_of_debris (put_debris new debris)))
            | inr later ↦ contains_more first.path (map path_of_debris (put_debris new debris)) path (put_keeps new debris path later)
          ]
    ]

add_keeps : (condemned : Bool) (rows : List Row) (debris : List Debris) (path : List (List ℕ)) → Contains (map path_of_debris debris) path →
    Contains (map path_of_debris (add_debris condemned rows debris)) path
add_keeps condemned [] debris path among = among
add_keeps condemned (row ∷ rows) debris path among =
    let new : Debris = record { path = row.path; condemned = condemned } in
    add_keeps condemned rows (put_debris new debris) path (put_keeps new debris path among)

-- a removed row that leaves debris owned its part
pub leaves_owned : (next : ℕ) (rows : List Row) (work : WorkState) (row : Row) → Kept next rows work → Contains rows row → leaves_debris work row ≡ true →
    owns_by (are_reading work.jobs) work.dirty row ≡ true
leaves_owned next rows work row kept among leaves =
    let parts = and_parts (row.stands || is_dirty work.dirty row.path) (not (is_lent row.path work.jobs)) leaves in
    elim row.stands as (λ b. row.stands ≡ b → (b || is_dirty work.dirty row.path) ≡ true → owns_by (are_reading work.jobs) work.dirty row ≡ true) [
      | true ↦ λ stands is.
          owns_standing (are_reading work.jobs) work.dirty row stands
          ∙ ap not (unlent_unread rows work.jobs row (λ job within. (kept.base.each job within).lent) among (not-true (is_lent row.path work.jobs) parts.1))
      | false ↦ λ lies is. owns_lying (are_reading work.jobs) work.dirty row lies ∙ is
    ] refl parts.0

-- rows step, and those that are removed leave debris
pub kept_removed : (next : ℕ) (place : Option (List (List ℕ))) (rows left : List Row) (work : WorkState) (by_clean : Bool) (ways : List WayOf) →
    are_apart rows ≡ true → are_apart left ≡ true → AreStampedBelow next rows → Steps next place rows left → Kept next rows work →
    Kept (next + 1) left (record (without_removed by_clean (removed_rows rows left) work) { ways = ways })
kept_removed next place rows left work by_clean ways before apart stamped steps kept = record {
  base = step_base next place rows left work.jobs work.dirty (map path_of_debris work.debris)
      (map path_of_debris (add_debris by_clean (filter (leaves_debris work) (removed_rows rows left)) work.debris)) kept.base stamped steps
      (add_keeps by_clean (filter (leaves_debris work) (removed_rows rows left)) work.debris);
  order = add_ascends by_clean (filter (leaves_debris work) (removed_rows rows left)) work.debris kept.order
      (λ x. let most = claimed x in omega (arith, most, covering-add x by_clean (filter (leaves_debris work) (removed_rows rows left)) work.debris));
  claimed = claimed;
}
  where
    claimed : Claimed (are_reading work.jobs) [] left (filter (is_kept_dirty (removed_rows rows left)) work.dirty)
        (add_debris by_clean (filter (leaves_debris work) (removed_rows rows left)) work.debris) work.jobs
    claimed =
        step_claims next place rows left work.jobs work.dirty work.debris (leaves_debris work) by_clean kept.base before apart stamped steps
        (λ row among leaves. leaves_owned next rows work row kept among leaves) kept.claimed

-- the path of debris that a clean of all condemned
condemn-path : (jobs : List Job) (debris : Debris) → (condemn jobs debris).path ≡ debris.path
condemn-path jobs debris = elim (is_stray jobs debris) as (λ b. (cond b (record debris { condemned = true }) debris).path ≡ debris.path) [ true ↦ refl | false ↦ refl ]

pub kept_asked : (next : ℕ) (place : Option (List (List ℕ))) (rows left : List Row) (work : WorkState) (all by_clean : Bool) (ways : List WayOf) →
    are_apart rows ≡ true → are_apart left ≡ true → AreStampedBelow next rows → Steps next place rows left → Kept next rows work →
    Kept (next + 1) left (record (without_removed by_clean (removed_rows rows left) (cond all (condemned_all work) work)) { ways = ways })
kept_asked next place rows left work true by_clean ways before apart stamped steps kept =
    kept_removed next place rows left (condemned_all work) by_clean ways before apart stamped steps
    (kept_marked next rows work (condemn work.jobs) (condemn-path work.jobs) kept)
kept_asked next place rows left work false by_clean ways before apart stamped steps kept =
    kept_removed next place rows left work by_clean ways before apart stamped steps kept

-- ---- a job begins

-- the part that a way reads is lent from a row that stands
pub may_lend : (rows : List Row) (jobs : List Job) (way : Way) → ((lent : Lent) → lent_by way rows ≡ Some lent → is_lent lent.path jobs ≡ false) →
    MayLend rows jobs (lent_by way rows)
may_lend rows jobs held unlent = tt
may_lend rows jobs store unlent = tt
may_lend rows jobs (copied source rest stamp holds) unlent = by (find (stands_as source stamp) rows) refl
  where
    by : (o : Option Row) → find (stands_as source stamp) rows ≡ o → MayLend rows jobs (option_map (lent_of source stamp) o)
    by None found = tt
    by (Some row) found =
        let parts = and_parts (is_declared source stamp row) row.stands (found_passes (stands_as source stamp) rows row found) in
        let declared = and_parts (is_at_path source row) (row.stamp == stamp) parts.0 in (
          record {
            row = row;
            among = found_contains (stands_as source stamp) rows row found;
            path = same_names-eq row.path source declared.0;
            stamp = eqb-true row.stamp stamp declared.1;
            stands = parts.1;
            tree = refl;
          },
          unlent (lent_of source stamp row) (ap (λ (o : Option Row). option_map (lent_of source stamp) o) found),
        )

-- the rules of a part that is lent from a row
part_below : (next : ℕ) (rows : List Row) (jobs : List Job) (o : Option Lent) → AreStampedBelow next rows → MayLend rows jobs o → IsPartBelow (next + 1) o
part_below next rows jobs None stamped may = tt
part_below next rows jobs (Some part) stamped (from, free) =
    let less = All-contains (λ (r : Row). r.stamp < next) rows from.row stamped.below from.among in let is = from.stamp in omega (arith, less, is)

part_lent : (next : ℕ) (rows : List Row) (jobs : List Job) (o : Option Lent) → AreStampedBelow next rows → MayLend rows jobs o → IsLentBy rows o
part_lent next rows jobs None stamped may = tt
part_lent next rows jobs (Some part) stamped (from, free) = λ row among is.
    let same : from.row ≡ row = one_stamp rows from.row row stamped.differ from.among among (from.stamp ∙ sym is) in
    subst (λ (r : Row). IsLender part r) same (record { path = from.path; stands = from.stands; tree = from.tree })

-- a make begins
pub kept_make : (next caller : ℕ) (path : List (List ℕ)) (stamp : ℕ) (book : Book) (work : WorkState) → are_apart book.rows ≡ true → AreStampedBelow next book.rows →
    MakeMayBegin work book path stamp → Kept next book.rows work → Kept (next + 1) book.rows (started next caller (task.Make path stamp) book.rows work)
kept_make next caller path stamp book work apart stamped may kept = record {
  base = push_base next book.rows work.jobs work.dirty (filter (λ (other : List (List ℕ)). not (same_names other path)) work.dirty)
      (map path_of_debris (filter (is_not_below path) work.debris)) job
      (debris_base next book.rows work.jobs work.dirty (map path_of_debris work.debris) (map path_of_debris (filter (is_not_below path) work.debris)) kept.base
      (λ other among wiped is within. left other among wiped is within))
      refl rules (λ other among wiped is too. absurd cc)
      (λ other among. (filtered_contains (λ (q : List (List ℕ)). not (same_names q path)) work.dirty other among).0);
  order = ascends_filtered path_of_debris (is_not_below path) work.debris kept.order;
  claimed = make_claims book.rows work.jobs work.dirty work.debris job path stamp may.row apart (λ other among. (kept.base.each other among).lent) refl may.among
      may.placed may.lies may.free may.clear lends kept.claimed;
}
  where
    lends : MayLend book.rows work.jobs (lent_by (way_of stamp work.ways) book.rows)
    lends = may_lend book.rows work.jobs (way_of stamp work.ways) may.source

    job : Job
    job = record { number = next; caller = caller; task = task.Make path stamp; lent = lent_by (way_of stamp work.ways) book.rows }

    rules : IsJob (next + 1) book.rows (map path_of_debris (filter (is_not_below path) work.debris)) job
    rules =
        let less = All-contains (λ (r : Row). r.stamp < next) book.rows may.row stamped.below may.among in
        let is = may.stamped in record {
          numbered = omega arith;
          making_below = let h : stamp < next + 1 = omega (arith, less, is) in h;
          lent_below = part_below next book.rows work.jobs (lent_by (way_of stamp work.ways) book.rows) stamped lends;
          wiping = tt;
          making = λ row among same.
              let one : may.row ≡ row = one_stamp book.rows may.row row stamped.differ may.among among (may.stamped ∙ sym same) in
              (sym (ap (λ (r : Row). r.path) one) ∙ may.placed, sym (ap (λ (r : Row). r.stands) one) ∙ may.lies);
          lent = part_lent next book.rows work.jobs (lent_by (way_of stamp work.ways) book.rows) stamped lends;
        }

    left : (other : Job) → Contains work.jobs other → (wiped : List (List ℕ)) → other.task ≡ task.Wipe wiped → Contains (map path_of_debris work.debris) wiped →
        Contains (map path_of_debris (filter (is_not_below path) work.debris)) wiped
    left other among wiped is within =
        let (one, lying, at) = mapped_contains path_of_debris work.debris wiped within in
        let clear : overlap wiped path ≡ false =
        subst (λ (t : Task). overlap (path_of_task t) path ≡ false) is
        (or_parts (overlap (path_of_task other.task) path) (option_map_or (lends_at path) other.lent false)
        (each_fails (has_loan path) work.jobs other may.free among)).0 in
        let aside : is_prefix path one.path ≡ false =
        subst (λ (p : List (List ℕ)). is_prefix path p ≡ false) (sym at) (or_parts (is_prefix wiped path) (is_prefix path wiped) clear).1 in
        subst (λ (p : List (List ℕ)). Contains (map path_of_debris (filter (is_not_below path) work.debris)) p) at
        (contains_map path_of_debris (filter (is_not_below path) work.debris) one (contains_filter (is_not_below path) work.debris one (ap not aside) lying))

-- a wipe begins
pub kept_wipe : (next caller : ℕ) (path : List (List ℕ)) (book : Book) (work : WorkState) → are_apart book.rows ≡ true →
    WipeMayBegin work book path → Kept next book.rows work → Kept (next + 1) book.rows (started next caller (task.Wipe path) book.rows work)
kept_wipe next caller path book work apart may kept = record {
  base = push_base next book.rows work.jobs work.dirty work.dirty (map path_of_debris work.debris) job kept.base refl
      (record { numbered = omega arith; making_below = tt; lent_below = tt; wiping = debris; making = tt; lent = tt })
      (λ other among wiped is too.
      let same : path ≡ wiped = cc in
      both_ways (is_lent path work.jobs) may.free
      (contains_any (has_loan path) work.jobs other among
      (or_left (overlap (path_of_task other.task) path) (option_map_or (lends_at path) other.lent false)
      (subst (λ (t : Task). overlap (path_of_task t) path ≡ true) (sym too)
      (subst (λ (p : List (List ℕ)). overlap p path ≡ true) same (overlap-refl path))))))
      (λ other among. among);
  order = kept.order;
  claimed = wipe_claims book.rows work.jobs work.dirty work.debris job path apart refl refl kept.claimed;
}
  where
    job : Job
    job = record { number = next; caller = caller; task = task.Wipe path; lent = None }

    debris : Contains (map path_of_debris work.debris) path
    debris =
        subst (λ (p : List (List ℕ)). Contains (map path_of_debris work.debris) p) may.placed (contains_map path_of_debris work.debris may.debris may.among)

-- a job couldn't begin
pub kept_refused : (next : ℕ) (rows : List Row) (work : WorkState) (t : Task) → Kept next rows work → Kept next rows (refused t work)
kept_refused next rows work (task.Make path stamp) kept = kept
kept_refused next rows work (task.Wipe path) kept = kept_marked next rows work (marked false path) (marked-path false path) kept
