-- How often a path is covered by the paths of rows, of debris and of jobs.
use Rattle.std.proofs.Common.{◌≡◌, ℕ, ◌+◌, ◌≤◌, Bool, true, false, not, cond, inl, inr, List, [], ◌∷◌, ◌++◌, refl, sym, ap, ap₂, subst, ◌∙◌, map, find, Some, zero, suc, Contains, arith}
use Rattle.std.specs.List.{filter, flat_map, list_all}
use Rattle.std.proofs.lemmas.Bool.{and_parts}
use Rattle.std.proofs.lemmas.List.Elements.{Contains-append_cases, Contains-append_left, Contains-append_right}
use Rattle.mat_path.specs.Covering.{covering}
use Rattle.mat_path.specs.Names.{is_prefix, overlap}
use Rattle.mat_path.proofs.CoveringLemmas.{covered_below, covered_by, covering-append, covering_none}
use Rattle.mat_path.proofs.CoveringRows.{among_rows, covering_rows-filter, row_among}
use Rattle.mat_path.proofs.Elements.{contains_cases, contains_first, contains_more, mapped_contains}
use Rattle.mat_path.proofs.Overlaps.{apart_of_prefixes}
use Rattle.mat_model.specs.declared.book.Row.{Row}
use Rattle.mat_model.specs.Openings.{path_of_row}
use Rattle.mat_model.specs.Rows.{are_apart, comes_before, is_apart}
use Rattle.mat_model.specs.WorkState.{Debris, Job, WorkState, add_debris, path_of_debris, put_debris}
use Rattle.model_laws.specs.WorkRules.{claimed_by_job, claimed_by_jobs, claims, owns}
use Rattle.model_laws.proofs.Apart.{apart_parts}
use Rattle.model_laws.proofs.Elements.{contains_all}

-- ---- rows

-- rows that are apart cover a path at most once
pub covering_rows-apart : (x : List (List ℕ)) (rows : List Row) → are_apart rows ≡ true → covering x (map path_of_row rows) ≤ 1
covering_rows-apart x [] apart = omega arith
covering_rows-apart x (row ∷ rows) apart =
    by (is_prefix row.path x) refl (covering_rows-apart x rows (and_parts (list_all (is_apart row) rows) (are_apart rows) apart).1)
  where
    others : is_prefix row.path x ≡ true → covering x (map path_of_row rows) ≡ 0
    others above =
        covering_none x (map path_of_row rows)
        (λ p among.
        let (other, within, is) = mapped_contains path_of_row rows p among in
        let clear : overlap row.path other.path ≡ false =
        (apart_parts row other (contains_all (is_apart row) rows other (and_parts (list_all (is_apart row) rows) (are_apart rows) apart).0 within)).1 in
        ap (λ (l : List (List ℕ)). is_prefix l x) (sym is) ∙ apart_of_prefixes row.path other.path x clear above)

    by : (b : Bool) → is_prefix row.path x ≡ b → covering x (map path_of_row rows) ≤ 1 → cond b 1 0 + covering x (map path_of_row rows) ≤ 1
    by true above most = omega (arith, others above)
    by false below most = omega (arith, most)

-- of rows that cover a path at most once, those that pass a test do so no more often than a number that isn't 0 where one of them does
pub rows_at_most : (n : ℕ) (test : Row → Bool) (x : List (List ℕ)) (rows : List Row) → covering x (map path_of_row rows) ≤ 1 →
    ((row : Row) → Contains rows row → test row ≡ true → is_prefix row.path x ≡ true → 1 ≤ n) → covering x (map path_of_row (filter test rows)) ≤ n
rows_at_most n test x rows most some = by (covering x (map path_of_row (filter test rows))) refl
  where
    by : (c : ℕ) → covering x (map path_of_row (filter test rows)) ≡ c → c ≤ n
    by zero is = omega arith
    by (suc c) is =
        let least : 1 ≤ covering x (map path_of_row (filter test rows)) = omega (arith, is) in
        let (p, among, above) = covered_by x (map path_of_row (filter test rows)) least in
        let (row, within, passes, named) = among_rows path_of_row test rows p among in
        omega (
          arith,
          is,
          covering_rows-filter path_of_row test x rows,
          most,
          some row within passes (ap (λ (l : List (List ℕ)). is_prefix l x) named ∙ above),
        )

-- a row that passes a test covers what is at or below it
pub row_covers : (test : Row → Bool) (x : List (List ℕ)) (rows : List Row) (row : Row) → Contains rows row → test row ≡ true →
    is_prefix row.path x ≡ true → 1 ≤ covering x (map path_of_row (filter test rows))
row_covers test x rows row among passes above =
    covered_below row.path x (map path_of_row (filter test rows)) (row_among path_of_row test rows row among passes) above

-- ---- debris

-- debris that is put among others counts beside them
pub covering-put : (x : List (List ℕ)) (new : Debris) (debris : List Debris) →
    covering x (map path_of_debris (put_debris new debris)) ≡ covering x (map path_of_debris debris) + cond (is_prefix new.path x) 1 0
covering-put x new [] = omega arith
covering-put x new (first ∷ debris) = by (comes_before new.path first.path) (covering-put x new debris)
  where
    by : (b : Bool) → covering x (map path_of_debris (put_debris new debris)) ≡ covering x (map path_of_debris debris) + cond (is_prefix new.path x) 1 0 →
        covering x (map path_of_debris (cond b (new ∷ first ∷ debris) (first ∷ put_debris new debris)))
        ≡ cond (is_prefix first.path x) 1 0 + covering x (map path_of_debris debris) + cond (is_prefix new.path x) 1 0
    by true e = omega arith
    by false e = omega (arith, e)

-- the debris of removed rows counts beside what there was
pub covering-add : (x : List (List ℕ)) (condemned : Bool) (rows : List Row) (debris : List Debris) →
    covering x (map path_of_debris (add_debris condemned rows debris)) ≡ covering x (map path_of_debris debris) + covering x (map path_of_row rows)
covering-add x condemned [] debris = omega arith
covering-add x condemned (row ∷ rows) debris =
    let new : Debris = record { path = row.path; condemned = condemned } in
    omega (arith, covering-add x condemned rows (put_debris new debris), covering-put x new debris)

-- debris that is marked is where it was
pub paths-map : (f : Debris → Debris) → ((debris : Debris) → (f debris).path ≡ debris.path) → (some : List Debris) →
    map path_of_debris (map f some) ≡ map path_of_debris some
paths-map f keeps [] = refl
paths-map f keeps (debris ∷ some) =
    ap₂ (λ (p : List (List ℕ)) (ps : List (List (List ℕ))). p ∷ ps) (keeps debris) (paths-map f keeps some)

-- ---- jobs

-- the claims of a job more
pub covering-job : (x : List (List ℕ)) (jobs : List Job) (job : Job) →
    covering x (claimed_by_jobs (jobs ++ job ∷ [])) ≡ covering x (claimed_by_jobs jobs) + covering x (claimed_by_job job)
covering-job x [] job = covering-append x (claimed_by_job job) [] ∙ omega arith
covering-job x (first ∷ jobs) job =
    omega (
      arith,
      covering-append x (claimed_by_job first) (claimed_by_jobs (jobs ++ job ∷ [])),
      covering-append x (claimed_by_job first) (claimed_by_jobs jobs),
      covering-job x jobs job,
    )

-- jobs of which some are left out claim no more
covering_jobs-filter : (test : Job → Bool) (x : List (List ℕ)) (jobs : List Job) → covering x (claimed_by_jobs (filter test jobs)) ≤ covering x (claimed_by_jobs jobs)
covering_jobs-filter test x [] = omega arith
covering_jobs-filter test x (job ∷ jobs) = by (test job) (covering_jobs-filter test x jobs)
  where
    by : (b : Bool) → covering x (claimed_by_jobs (filter test jobs)) ≤ covering x (claimed_by_jobs jobs) →
        covering x (claimed_by_jobs (cond b (job ∷ filter test jobs) (filter test jobs))) ≤ covering x (claimed_by_jobs (job ∷ jobs))
    by true e = omega (arith, e, covering-append x (claimed_by_job job) (claimed_by_jobs (filter test jobs)), covering-append x (claimed_by_job job) (claimed_by_jobs jobs))
    by false e = omega (arith, e, covering-append x (claimed_by_job job) (claimed_by_jobs jobs))

-- a job that ends claims nothing more beside the others
pub covering-ended : (gone left : Job → Bool) → ((job : Job) → left job ≡ not (gone job)) → (x : List (List ℕ)) (jobs : List Job) (job : Job) →
    find gone jobs ≡ Some job →
    covering x (claimed_by_jobs (filter left jobs)) + covering x (claimed_by_job job) ≤ covering x (claimed_by_jobs jobs)
covering-ended gone left opposite x [] job found = absurd cc
covering-ended gone left opposite x (first ∷ jobs) job found =
    by (gone first) (left first) (opposite first) found (covering-ended gone left opposite x jobs job)
  where
    by : (b c : Bool) → c ≡ not b → cond b (Some first) (find gone jobs) ≡ Some job →
        (find gone jobs ≡ Some job → covering x (claimed_by_jobs (filter left jobs)) + covering x (claimed_by_job job) ≤ covering x (claimed_by_jobs jobs)) →
        covering x (claimed_by_jobs (cond c (first ∷ filter left jobs) (filter left jobs))) + covering x (claimed_by_job job) ≤ covering x (claimed_by_jobs (first ∷ jobs))
    by true true o f e = absurd cc
    by true false o f e =
        let same : first ≡ job = cc in
        omega (
          arith,
          covering_jobs-filter left x jobs,
          covering-append x (claimed_by_job first) (claimed_by_jobs jobs),
          ap (λ (j : Job). covering x (claimed_by_job j)) same,
        )
    by false true o f e =
        omega (arith, e f, covering-append x (claimed_by_job first) (claimed_by_jobs (filter left jobs)), covering-append x (claimed_by_job first) (claimed_by_jobs jobs))
    by false false o f e = absurd cc

-- what one of some names is named by all
pub covering_within : {Y : Type 0} (f : Y → List (List (List ℕ))) (x : List (List ℕ)) (ys : List Y) (y : Y) → Contains ys y →
    covering x (f y) ≤ covering x (flat_map f ys)
covering_within f x [] y (k, within, at) = absurd (omega arith)
covering_within f x (first ∷ ys) y among =
    elim (contains_cases first ys y among) [
      | inl same ↦ omega (arith, covering-append x (f first) (flat_map f ys), ap (λ z. covering x (f z)) same)
      | inr later ↦ omega (arith, covering-append x (f first) (flat_map f ys), covering_within f x ys y later)
    ]

-- what those that pass a test name and what the others do count together
pub covering_named-split : {Y : Type 0} (f : Y → List (List (List ℕ))) (test : Y → Bool) (x : List (List ℕ)) (ys : List Y) →
    covering x (flat_map f ys) ≡ covering x (flat_map f (filter test ys)) + covering x (flat_map f (filter (λ y. not (test y)) ys))
covering_named-split f test x [] = omega arith
covering_named-split f test x (y ∷ ys) = by (test y) (covering_named-split f test x ys)
  where
    by : (b : Bool) →
        covering x (flat_map f ys) ≡ covering x (flat_map f (filter test ys)) + covering x (flat_map f (filter (λ z. not (test z)) ys)) →
        covering x (f y ++ flat_map f ys)
        ≡ covering x (flat_map f (cond b (y ∷ filter test ys) (filter test ys)))
        + covering x (flat_map f (cond (not b) (y ∷ filter (λ z. not (test z)) ys) (filter (λ z. not (test z)) ys)))
    by true e = omega (arith, e, covering-append x (f y) (flat_map f ys), covering-append x (f y) (flat_map f (filter test ys)))
    by false e = omega (arith, e, covering-append x (f y) (flat_map f ys), covering-append x (f y) (flat_map f (filter (λ z. not (test z)) ys)))

-- a path that one of some names is named by all, and the other way round
pub named_among : {Y : Type 0} (f : Y → List (List (List ℕ))) (ys : List Y) (y : Y) (p : List (List ℕ)) → Contains ys y → Contains (f y) p →
    Contains (flat_map f ys) p
named_among f [] y p (k, within, at) named = absurd (omega arith)
named_among f (first ∷ ys) y p among named =
    elim (contains_cases first ys y among) [
      | inl same ↦ Contains-append_left (f first) (flat_map f ys) p (subst (λ z. Contains (f z) p) (sym same) named)
      | inr later ↦ Contains-append_right (f first) (flat_map f ys) p (named_among f ys y p later named)
    ]

pub among_named : {Y : Type 0} (f : Y → List (List (List ℕ))) (ys : List Y) (p : List (List ℕ)) → Contains (flat_map f ys) p →
    (y : Y) × Contains ys y × Contains (f y) p
among_named f [] p (k, within, at) = absurd (omega arith)
among_named f (first ∷ ys) p among =
    elim (Contains-append_cases (f first) (flat_map f ys) p among) [
      | inl here ↦ (first, contains_first first ys, here)
      | inr later ↦ let (y, within, named) = among_named f ys p later in (y, contains_more first ys y within, named)
    ]

-- ---- all claims

-- the claims of rows, of debris and of jobs count together
pub covering_claims : (x : List (List ℕ)) (rows : List Row) (work : WorkState) →
    covering x (claims rows work)
    ≡ covering x (map path_of_row (filter (owns work) rows)) + covering x (map path_of_debris work.debris) + covering x (claimed_by_jobs work.jobs)
covering_claims x rows work =
    covering-append x (map path_of_row (filter (owns work) rows) ++ map path_of_debris work.debris) (claimed_by_jobs work.jobs)
    ∙ ap (λ (n : ℕ). n + covering x (claimed_by_jobs work.jobs))
    (covering-append x (map path_of_row (filter (owns work) rows)) (map path_of_debris work.debris))
