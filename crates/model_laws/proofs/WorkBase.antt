-- The rules of a work state but for its claims, over plain lists: how they are kept where rows step, jobs come and go, and debris grows.
use Rattle.std.proofs.Common.{◌≡◌, ℕ, ◌+◌, ◌<◌, nat_lt, Bool, true, false, not, ◌⊎◌, inl, inr, List, [], ◌∷◌, ◌++◌, Option, Some, None, cond, refl, sym, ap, subst, ◌∙◌, map, Contains, arith}
use Rattle.std.specs.List.{filter, list_all, list_any}
use Rattle.std.proofs.lemmas.Bool.{and_from, and_parts, both_ways, eqb-true, not-true, true_from_ne_false}
use Rattle.std.proofs.lemmas.Bool.Decides.{nat_tests}
use Rattle.std.proofs.lemmas.List.Elements.{All-contains}
use Rattle.mat_path.specs.Names.{overlap}
use Rattle.mat_path.proofs.Elements.{contains_cases, contains_filter, contains_first, contains_more, filtered_contains}
use Rattle.mat_path.proofs.Overlaps.{overlap-refl}
use Rattle.mat_path.proofs.SameNames.{same_names-eq, same_names-refl}
use Rattle.mat_model.specs.declared.book.Row.{Row}
use Rattle.mat_model.specs.declared.entries.Task.{Task}
use Rattle.mat_model.specs.declared.entries.Task.TheVariants as task
use Rattle.mat_model.specs.Books.{are_ascending}
use Rattle.mat_model.specs.Rows.{are_apart, is_at_path}
use Rattle.mat_model.specs.WorkState.{Job, Lent, WorkState, has_stamp, is_gone, is_kept_dirty, lies_at, path_of_debris, removed_rows}
use Rattle.model_laws.specs.RowRules.{AreStampedBelow}
use Rattle.model_laws.specs.WorkRules.{IsJob, IsLentBy, IsMaking, IsPartBelow, IsTaskBelow, IsWiping, IsWork, number_of_job}
use Rattle.model_laws.proofs.BooksLists.{any_contains, contains_any}
use Rattle.model_laws.proofs.BooksRows.{apart_same}
use Rattle.model_laws.proofs.StampLemmas.{one_stamp}

-- the rules of a work state but for its claims and for those of the rows alone
pub record Base (next : ℕ) (rows : List Row) (jobs : List Job) (dirty : List (List (List ℕ))) (debris : List (List (List ℕ))) : Type 0 where
  pub numbers : are_ascending (map number_of_job jobs) ≡ true
  pub each : (job : Job) → Contains jobs job → IsJob next rows debris job
  pub wipes : (job other : Job) → Contains jobs job → Contains jobs other → (path : List (List ℕ)) →
      job.task ≡ task.Wipe path → other.task ≡ task.Wipe path → job ≡ other
  pub lying : (path : List (List ℕ)) → Contains dirty path → list_any (lies_at path) rows ≡ true

pub base_of : (next : ℕ) (rows : List Row) (work : WorkState) → IsWork next rows work → Base next rows work.jobs work.dirty (map path_of_debris work.debris)
base_of next rows work rules = record { numbers = rules.numbers; each = rules.jobs; wipes = rules.wipes; lying = rules.dirty }

-- ---- rows

-- two rows that are apart and at one path are one
pub at_one_path : (rows : List Row) (row other : Row) → are_apart rows ≡ true → Contains rows row → Contains rows other → row.path ≡ other.path → row ≡ other
at_one_path rows row other apart among also same =
    apart_same rows row other apart among also (subst (λ (p : List (List ℕ)). overlap row.path p ≡ true) same (overlap-refl row.path))

-- a row that lies at a path, of some
abbrev pub HasLying : List Row → List (List ℕ) → Type 0
HasLying rows path = (row : Row) × Contains rows row × (row.path ≡ path) × (row.stands ≡ false)

pub lying_row : (rows : List Row) (path : List (List ℕ)) → list_any (lies_at path) rows ≡ true → HasLying rows path
lying_row rows path some =
    let (row, among, lies) = any_contains (lies_at path) rows some in
    let parts = and_parts (is_at_path path row) (not row.stands) lies in
    (row, among, same_names-eq row.path path parts.0, not-true row.stands parts.1)

pub lying_any : (rows : List Row) (path : List (List ℕ)) → HasLying rows path → list_any (lies_at path) rows ≡ true
lying_any rows path (row, among, at, lies) =
    contains_any (lies_at path) rows row among
    (and_from (is_at_path path row) (not row.stands)
    (subst (λ (p : List (List ℕ)). is_at_path p row ≡ true) at (same_names-refl row.path)) (ap not lies))

-- ---- jobs

-- a job keeps its rules where debris is other than it was, but what it wipes is still there
pub job_grows : (next : ℕ) (rows : List Row) (debris more : List (List (List ℕ))) (job : Job) →
    ((path : List (List ℕ)) → job.task ≡ task.Wipe path → Contains debris path → Contains more path) →
    IsJob next rows debris job → IsJob next rows more job
job_grows next rows debris more job grows rules = record {
  numbered = rules.numbered;
  making_below = rules.making_below;
  lent_below = rules.lent_below;
  wiping = wiping_more job.task grows rules.wiping;
  making = rules.making;
  lent = rules.lent;
}
  where
    wiping_more : (t : Task) → ((path : List (List ℕ)) → t ≡ task.Wipe path → Contains debris path → Contains more path) → IsWiping debris t → IsWiping more t
    wiping_more (task.Make path stamp) there is = tt
    wiping_more (task.Wipe path) there is = there path refl is

-- and where the next number is greater
pub job_later : (next : ℕ) (rows : List Row) (debris : List (List (List ℕ))) (job : Job) → IsJob next rows debris job → IsJob (next + 1) rows debris job
job_later next rows debris job rules = record {
  numbered = let less : job.number < next = rules.numbered in omega (arith, less);
  making_below = task_later job.task rules.making_below;
  lent_below = part_later job.lent rules.lent_below;
  wiping = rules.wiping;
  making = rules.making;
  lent = rules.lent;
}
  where
    task_later : (t : Task) → IsTaskBelow next t → IsTaskBelow (next + 1) t
    task_later (task.Make path stamp) less = let is : stamp < next = less in omega (arith, is)
    task_later (task.Wipe path) less = tt

    part_later : (o : Option Lent) → IsPartBelow next o → IsPartBelow (next + 1) o
    part_later None less = tt
    part_later (Some lent) less = let is : lent.stamp < next = less in omega (arith, is)

-- numbers ascend with a greater one behind them
pub ascending_push : (jobs : List Job) (job : Job) → are_ascending (map number_of_job jobs) ≡ true →
    ((other : Job) → Contains jobs other → other.number < job.number) → are_ascending (map number_of_job (jobs ++ job ∷ [])) ≡ true
ascending_push [] job up less = refl
ascending_push (first ∷ jobs) job up less =
    let parts = and_parts (list_all (nat_lt first.number) (map number_of_job jobs)) (are_ascending (map number_of_job jobs)) up in
    and_from (list_all (nat_lt first.number) (map number_of_job (jobs ++ job ∷ []))) (are_ascending (map number_of_job (jobs ++ job ∷ [])))
    (all_push jobs parts.0) (ascending_push jobs job parts.1 (λ other among. less other (contains_more first jobs other among)))
  where
    all_push : (others : List Job) → list_all (nat_lt first.number) (map number_of_job others) ≡ true →
        list_all (nat_lt first.number) (map number_of_job (others ++ job ∷ [])) ≡ true
    all_push [] all = let here : first.number < job.number = less first (contains_first first jobs) in grind (arith, nat_tests, here)
    all_push (next ∷ others) all =
        let parts = and_parts (nat_lt first.number next.number) (list_all (nat_lt first.number) (map number_of_job others)) all in
        and_from (nat_lt first.number next.number) (list_all (nat_lt first.number) (map number_of_job (others ++ job ∷ []))) parts.0 (all_push others parts.1)

-- and where some jobs are left out
pub ascending_filter : (test : Job → Bool) (jobs : List Job) → are_ascending (map number_of_job jobs) ≡ true →
    are_ascending (map number_of_job (filter test jobs)) ≡ true
ascending_filter test [] up = refl
ascending_filter test (first ∷ jobs) up =
    let parts = and_parts (list_all (nat_lt first.number) (map number_of_job jobs)) (are_ascending (map number_of_job jobs)) up in
    elim (test first) as (λ b. are_ascending (map number_of_job (cond b (first ∷ filter test jobs) (filter test jobs))) ≡ true) [
      | true ↦
          and_from (list_all (nat_lt first.number) (map number_of_job (filter test jobs))) (are_ascending (map number_of_job (filter test jobs)))
          (all_filter jobs parts.0) (ascending_filter test jobs parts.1)
      | false ↦ ascending_filter test jobs parts.1
    ]
  where
    all_filter : (others : List Job) → list_all (nat_lt first.number) (map number_of_job others) ≡ true →
        list_all (nat_lt first.number) (map number_of_job (filter test others)) ≡ true
    all_filter [] all = refl
    all_filter (next ∷ others) all =
        let parts = and_parts (nat_lt first.number next.number) (list_all (nat_lt first.number) (map number_of_job others)) all in
        elim (test next) as (λ b. list_all (nat_lt first.number) (map number_of_job (cond b (next ∷ filter test others) (filter test others))) ≡ true) [
          | true ↦ and_from (nat_lt first.number next.number) (list_all (nat_lt first.number) (map number_of_job (filter test others))) parts.0 (all_filter others parts.1)
          | false ↦ all_filter others parts.1
        ]

-- of jobs whose numbers ascend the first has the least
pub number_after : (one : Job) (others : List Job) (z : Job) → list_all (nat_lt one.number) (map number_of_job others) ≡ true → Contains others z →
    one.number < z.number
number_after one [] z all (k, within, at) = absurd (omega arith)
number_after one (next ∷ others) z all within =
    let parts = and_parts (nat_lt one.number next.number) (list_all (nat_lt one.number) (map number_of_job others)) all in
    elim (contains_cases next others z within) [
      | inl is ↦ subst (λ (j : Job). one.number < j.number) is (let h = parts.0 in grind (arith, nat_tests, h))
      | inr rest ↦ number_after one others z parts.1 rest
    ]

-- two jobs of one number are one
pub same_job : (jobs : List Job) (job other : Job) → are_ascending (map number_of_job jobs) ≡ true → Contains jobs job → Contains jobs other →
    job.number ≡ other.number → job ≡ other
same_job [] job other up (k, within, at) also same = absurd (omega arith)
same_job (first ∷ jobs) job other up among also same =
    let parts = and_parts (list_all (nat_lt first.number) (map number_of_job jobs)) (are_ascending (map number_of_job jobs)) up in
    elim (contains_cases first jobs job among) [
      | inl here ↦ elim (contains_cases first jobs other also) [
        | inl too ↦ sym here ∙ too
        | inr later ↦
            let less = number_after first jobs other parts.0 later in
            let is : first.number ≡ job.number = ap (λ (j : Job). j.number) here in absurd (omega (arith, less, is, same))
      ]
      | inr more ↦ elim (contains_cases first jobs other also) [
        | inl too ↦
            let less = number_after first jobs job parts.0 more in
            let is : first.number ≡ other.number = ap (λ (j : Job). j.number) too in absurd (omega (arith, less, is, same))
        | inr later ↦ same_job jobs job other parts.1 more later same
      ]
    ]

-- ---- rows step

-- a row was there among some, with the same path, tree and stamp, and stood as it does
pub record Was (rows : List Row) (row : Row) : Type 0 where
  pub old : Row
  pub among : Contains rows old
  pub path : row.path ≡ old.path
  pub tree : row.tree ≡ old.tree
  pub stamp : row.stamp ≡ old.stamp
  pub stands : row.stands ≡ old.stands

-- a row was there, or is the one that was declared: it is at the path that was declared, under the next number, and doesn't stand
abbrev pub Came : ℕ → Option (List (List ℕ)) → List Row → Row → Type 0
Came next place rows row = ((row.stamp ≡ next) × (row.stands ≡ false) × (place ≡ Some row.path)) ⊎ Was rows row

-- rows stepped so
abbrev pub Steps : ℕ → Option (List (List ℕ)) → List Row → List Row → Type 0
Steps next place rows left = (row : Row) → Contains left row → Came next place rows row

-- a row under an earlier stamp was there
pub was_there : (next : ℕ) (place : Option (List (List ℕ))) (rows : List Row) (row : Row) → Came next place rows row → row.stamp < next → Was rows row
was_there next place rows row (inl (is, lies, at)) less = absurd (omega (arith, is, less))
was_there next place rows row (inr was) less = was

-- the rules of a job that speak of rows
step_making : (next : ℕ) (place : Option (List (List ℕ))) (rows left : List Row) (t : Task) → Steps next place rows left → IsTaskBelow next t →
    IsMaking rows t → IsMaking left t
step_making next place rows left (task.Make path stamp) steps less making = λ row among is.
    let early : stamp < next = less in
    let was = was_there next place rows row (steps row among) (omega (arith, early, is)) in
    let parts = making was.old was.among (sym was.stamp ∙ is) in
    (was.path ∙ parts.0, was.stands ∙ parts.1)
step_making next place rows left (task.Wipe path) steps less making = tt

step_lent : (next : ℕ) (place : Option (List (List ℕ))) (rows left : List Row) (o : Option Lent) → Steps next place rows left → IsPartBelow next o →
    IsLentBy rows o → IsLentBy left o
step_lent next place rows left None steps less lent = tt
step_lent next place rows left (Some part) steps less lent = λ row among is.
    let early : part.stamp < next = less in
    let was = was_there next place rows row (steps row among) (omega (arith, early, is)) in
    let from = lent was.old was.among (sym was.stamp ∙ is) in
    record { path = was.path ∙ from.path; stands = was.stands ∙ from.stands; tree = was.tree ∙ from.tree }

-- a row that is left under the stamp of one that was there is at its path, and stands as it did
still_row : (next : ℕ) (place : Option (List (List ℕ))) (rows left : List Row) (old row : Row) → AreStampedBelow next rows → Steps next place rows left →
    Contains rows old → Contains left row → row.stamp ≡ old.stamp → (row.path ≡ old.path) × (row.stands ≡ old.stands) × (row.stamp < next)
still_row next place rows left old row stamped steps there within same =
    let early : old.stamp < next = All-contains (λ (r : Row). r.stamp < next) rows old stamped.below there in
    let less : row.stamp < next = omega (arith, same, early) in
    by less (was_there next place rows row (steps row within) less)
  where
    by : row.stamp < next → Was rows row → (row.path ≡ old.path) × (row.stands ≡ old.stands) × (row.stamp < next)
    by less was =
        let stamp : was.old.stamp ≡ old.stamp = sym was.stamp ∙ same in
        let one : was.old ≡ old = one_stamp rows was.old old stamped.differ was.among there stamp in
        (was.path ∙ ap (λ (r : Row). r.path) one, was.stands ∙ ap (λ (r : Row). r.stands) one, less)

-- a row that lies where no removed one did has its stamp among those that are left
still_there : (rows left : List Row) (path : List (List ℕ)) (old : Row) → Contains rows old → old.path ≡ path →
    is_kept_dirty (removed_rows rows left) path ≡ true → list_any (has_stamp old.stamp) left ≡ true
still_there rows left path old there at keeps =
    true_from_ne_false (list_any (has_stamp old.stamp) left)
    (λ gone.
    both_ways (list_any (is_at_path path) (removed_rows rows left)) (not-true (list_any (is_at_path path) (removed_rows rows left)) keeps)
    (contains_any (is_at_path path) (removed_rows rows left) old (contains_filter (is_gone left) rows old (ap not gone) there)
    (subst (λ (p : List (List ℕ)). is_at_path p old ≡ true) at (same_names-refl old.path))))

-- a dirty path that isn't that of a removed row is that of one that stays
pub step_dirty : (next : ℕ) (place : Option (List (List ℕ))) (rows left : List Row) (dirty : List (List (List ℕ))) →
    AreStampedBelow next rows → Steps next place rows left → ((path : List (List ℕ)) → Contains dirty path → list_any (lies_at path) rows ≡ true) →
    (path : List (List ℕ)) → Contains (filter (is_kept_dirty (removed_rows rows left)) dirty) path →
    (row : Row) × Contains left row × (row.path ≡ path) × (row.stands ≡ false) × (row.stamp < next)
step_dirty next place rows left dirty stamped steps lying path among =
    by (filtered_contains (is_kept_dirty (removed_rows rows left)) dirty path among).1
    (lying_row rows path (lying path (filtered_contains (is_kept_dirty (removed_rows rows left)) dirty path among).0))
  where
    stays : (old row : Row) → Contains rows old → old.path ≡ path → old.stands ≡ false → Contains left row → row.stamp ≡ old.stamp →
        (one : Row) × Contains left one × (one.path ≡ path) × (one.stands ≡ false) × (one.stamp < next)
    stays old row there at lies within same =
        let still = still_row next place rows left old row stamped steps there within same in (row, within, still.0 ∙ at, still.1 ∙ lies, still.2)

    by : is_kept_dirty (removed_rows rows left) path ≡ true → HasLying rows path →
        (row : Row) × Contains left row × (row.path ≡ path) × (row.stands ≡ false) × (row.stamp < next)
    by keeps (old, there, at, lies) =
        let (row, within, same) = any_contains (has_stamp old.stamp) left (still_there rows left path old there at keeps) in
        stays old row there at lies within (eqb-true row.stamp old.stamp same)

-- the rules are kept where rows step, the marks of removed ones go and debris grows
pub step_base : (next : ℕ) (place : Option (List (List ℕ))) (rows left : List Row) (jobs : List Job) (dirty : List (List (List ℕ)))
    (debris more : List (List (List ℕ))) → Base next rows jobs dirty debris → AreStampedBelow next rows → Steps next place rows left →
    ((path : List (List ℕ)) → Contains debris path → Contains more path) →
    Base (next + 1) left jobs (filter (is_kept_dirty (removed_rows rows left)) dirty) more
step_base next place rows left jobs dirty debris more base stamped steps grows = record {
  numbers = base.numbers;
  each = λ job among.
      let rules = base.each job among in
      job_later next left more job (job_grows next left debris more job (λ path is. grows path) (record {
        numbered = rules.numbered;
        making_below = rules.making_below;
        lent_below = rules.lent_below;
        wiping = rules.wiping;
        making = step_making next place rows left job.task steps rules.making_below rules.making;
        lent = step_lent next place rows left job.lent steps rules.lent_below rules.lent;
      }));
  wipes = base.wipes;
  lying = λ path among.
      let (row, within, at, lies, less) = step_dirty next place rows left dirty stamped steps base.lying path among in
      lying_any left path (row, within, at, lies);
}
