-- How often a path is covered by the paths of rows, of which a test takes some: rows of any kind, each named by a path.
use Rattle.std.proofs.Common.{◌≡◌, ℕ, ◌+◌, ◌≤◌, Bool, true, false, not, ◌&&◌, cond, List, [], ◌∷◌, ◌++◌, refl, sym, ap, ◌∙◌, map, Contains, arith}
use Rattle.std.specs.List.{filter}
use Rattle.std.proofs.lemmas.Bool.{and_from, both_ways}
use Rattle.mat_path.specs.Covering.{covering}
use Rattle.mat_path.specs.Names.{is_prefix, overlap}
use Rattle.mat_path.proofs.CoveringLemmas.{apart_across, counts_same, covering_among, covering_none}
use Rattle.mat_path.proofs.Elements.{contains_filter, contains_first, contains_map, contains_more, filtered_contains, mapped_contains}

-- rows count the same by two names of which each is a prefix where the other is
pub covering_rows-names : {Y : Type 0} (name other : Y → List (List ℕ)) (x : List (List ℕ)) (ys : List Y) →
    ((y : Y) → Contains ys y → is_prefix (name y) x ≡ is_prefix (other y) x) → covering x (map name ys) ≡ covering x (map other ys)
covering_rows-names name other x [] same = refl
covering_rows-names name other x (y ∷ ys) same =
    omega (arith, counts_same (name y) (other y) x (same y (contains_first y ys)), covering_rows-names name other x ys (λ z among. same z (contains_more y ys z among)))

-- rows that pass a test and those that pass its opposite count together
pub covering_rows-split : {Y : Type 0} (name : Y → List (List ℕ)) (test other : Y → Bool) → ((y : Y) → other y ≡ not (test y)) →
    (x : List (List ℕ)) (ys : List Y) →
    covering x (map name ys) ≡ covering x (map name (filter test ys)) + covering x (map name (filter other ys))
covering_rows-split name test other opposite x [] = omega arith
covering_rows-split name test other opposite x (y ∷ ys) = by (test y) (other y) (opposite y) (covering_rows-split name test other opposite x ys)
  where
    by : (b c : Bool) → c ≡ not b →
        covering x (map name ys) ≡ covering x (map name (filter test ys)) + covering x (map name (filter other ys)) →
        cond (is_prefix (name y) x) 1 0 + covering x (map name ys)
        ≡ covering x (map name (cond b (y ∷ filter test ys) (filter test ys))) + covering x (map name (cond c (y ∷ filter other ys) (filter other ys)))
    by true true o e = cc
    by true false o e = omega arith
    by false true o e = omega arith
    by false false o e = cc

-- rows that pass a test are cut by another one
pub covering_rows-cut : {Y : Type 0} (name : Y → List (List ℕ)) (test cut : Y → Bool) (x : List (List ℕ)) (ys : List Y) →
    covering x (map name (filter test ys))
    ≡ covering x (map name (filter (λ y. test y && cut y) ys)) + covering x (map name (filter (λ y. test y && not (cut y)) ys))
covering_rows-cut name test cut x [] = omega arith
covering_rows-cut name test cut x (y ∷ ys) = by (test y) (cut y) (covering_rows-cut name test cut x ys)
  where
    by : (b c : Bool) →
        covering x (map name (filter test ys))
        ≡ covering x (map name (filter (λ y. test y && cut y) ys)) + covering x (map name (filter (λ y. test y && not (cut y)) ys)) →
        covering x (map name (cond b (y ∷ filter test ys) (filter test ys)))
        ≡ covering x (map name (cond (b && c) (y ∷ filter (λ y. test y && cut y) ys) (filter (λ y. test y && cut y) ys)))
        + covering x (map name (cond (b && not c) (y ∷ filter (λ y. test y && not (cut y)) ys) (filter (λ y. test y && not (cut y)) ys)))
    by true true e = omega arith
    by true false e = omega arith
    by false true e = omega arith
    by false false e = omega arith

-- rows that pass one of two tests count the same where the tests agree on each row
pub covering_rows-agree : {Y : Type 0} (name : Y → List (List ℕ)) (test other : Y → Bool) (x : List (List ℕ)) (ys : List Y) →
    ((y : Y) → Contains ys y → test y ≡ other y) → covering x (map name (filter test ys)) ≡ covering x (map name (filter other ys))
covering_rows-agree name test other x [] same = refl
covering_rows-agree name test other x (y ∷ ys) same =
    by (test y) (other y) (same y (contains_first y ys)) (covering_rows-agree name test other x ys (λ z among. same z (contains_more y ys z among)))
  where
    by : (b c : Bool) → b ≡ c → covering x (map name (filter test ys)) ≡ covering x (map name (filter other ys)) →
        covering x (map name (cond b (y ∷ filter test ys) (filter test ys))) ≡ covering x (map name (cond c (y ∷ filter other ys) (filter other ys)))
    by true true o e = omega arith
    by true false o e = cc
    by false true o e = cc
    by false false o e = e

-- two tests that agree on all rows but some: what these rows count is all that differs
pub covering_rows-flip : {Y : Type 0} (name : Y → List (List ℕ)) (test other here : Y → Bool) (x : List (List ℕ)) (ys : List Y) →
    ((y : Y) → Contains ys y → here y ≡ false → test y ≡ other y) →
    covering x (map name (filter test ys)) + covering x (map name (filter (λ y. other y && here y) ys))
    ≡ covering x (map name (filter other ys)) + covering x (map name (filter (λ y. test y && here y) ys))
covering_rows-flip name test other here x [] same = refl
covering_rows-flip name test other here x (y ∷ ys) same =
    by (test y) (other y) (here y) (same y (contains_first y ys))
    (covering_rows-flip name test other here x ys (λ z among. same z (contains_more y ys z among)))
  where
    by : (b c h : Bool) → (h ≡ false → b ≡ c) →
        covering x (map name (filter test ys)) + covering x (map name (filter (λ y. other y && here y) ys))
        ≡ covering x (map name (filter other ys)) + covering x (map name (filter (λ y. test y && here y) ys)) →
        covering x (map name (cond b (y ∷ filter test ys) (filter test ys)))
        + covering x (map name (cond (c && h) (y ∷ filter (λ y. other y && here y) ys) (filter (λ y. other y && here y) ys)))
        ≡ covering x (map name (cond c (y ∷ filter other ys) (filter other ys)))
        + covering x (map name (cond (b && h) (y ∷ filter (λ y. test y && here y) ys) (filter (λ y. test y && here y) ys)))
    by true true true o e = omega arith
    by true true false o e = omega arith
    by true false true o e = omega arith
    by true false false o e = absurd (both_ways true (o refl) refl)
    by false true true o e = omega arith
    by false true false o e = absurd (both_ways true (sym (o refl)) refl)
    by false false true o e = omega arith
    by false false false o e = omega arith

-- rows that a function changes count the same where the test and the name of each are as before
pub covering_rows-map : {Y Z : Type 0} (f : Y → Z) (name : Z → List (List ℕ)) (test : Z → Bool) (name_before : Y → List (List ℕ)) (test_before : Y → Bool)
    (x : List (List ℕ)) (ys : List Y) →
    ((y : Y) → Contains ys y → test (f y) ≡ test_before y) →
    ((y : Y) → Contains ys y → is_prefix (name (f y)) x ≡ is_prefix (name_before y) x) →
    covering x (map name (filter test (map f ys))) ≡ covering x (map name_before (filter test_before ys))
covering_rows-map f name test name_before test_before x [] tests names = refl
covering_rows-map f name test name_before test_before x (y ∷ ys) tests names =
    by (test (f y)) (test_before y) (tests y (contains_first y ys)) (counts_same (name (f y)) (name_before y) x (names y (contains_first y ys)))
    (covering_rows-map f name test name_before test_before x ys (λ z among. tests z (contains_more y ys z among)) (λ z among. names z (contains_more y ys z among)))
  where
    by : (b c : Bool) → b ≡ c → ◌≡◌ {A = ℕ} (cond (is_prefix (name (f y)) x) 1 0) (cond (is_prefix (name_before y) x) 1 0) →
        covering x (map name (filter test (map f ys))) ≡ covering x (map name_before (filter test_before ys)) →
        covering x (map name (cond b (f y ∷ filter test (map f ys)) (filter test (map f ys))))
        ≡ covering x (map name_before (cond c (y ∷ filter test_before ys) (filter test_before ys)))
    by true true o n e = omega arith
    by true false o n e = cc
    by false true o n e = cc
    by false false o n e = e

-- rows that pass a test count no more than all
pub covering_rows-filter : {Y : Type 0} (name : Y → List (List ℕ)) (test : Y → Bool) (x : List (List ℕ)) (ys : List Y) →
    covering x (map name (filter test ys)) ≤ covering x (map name ys)
covering_rows-filter name test x ys = omega (arith, covering_rows-split name test (λ y. not (test y)) (λ y. refl) x ys)

-- a row more, anywhere, counts where it passes the test and its name is a prefix
pub covering_rows-insert : {Y : Type 0} (name : Y → List (List ℕ)) (test : Y → Bool) (x : List (List ℕ)) (ys : List Y) (y : Y) (zs : List Y) →
    covering x (map name (filter test (ys ++ y ∷ zs))) ≡ covering x (map name (filter test (ys ++ zs))) + cond (test y && is_prefix (name y) x) 1 0
covering_rows-insert name test x [] y zs = by (test y)
  where
    by : (b : Bool) → covering x (map name (cond b (y ∷ filter test zs) (filter test zs))) ≡ covering x (map name (filter test zs)) + cond (b && is_prefix (name y) x) 1 0
    by true = omega arith
    by false = omega arith
covering_rows-insert name test x (first ∷ ys) y zs = by (test first) (covering_rows-insert name test x ys y zs)
  where
    by : (b : Bool) →
        covering x (map name (filter test (ys ++ y ∷ zs))) ≡ covering x (map name (filter test (ys ++ zs))) + cond (test y && is_prefix (name y) x) 1 0 →
        covering x (map name (cond b (first ∷ filter test (ys ++ y ∷ zs)) (filter test (ys ++ y ∷ zs))))
        ≡ covering x (map name (cond b (first ∷ filter test (ys ++ zs)) (filter test (ys ++ zs)))) + cond (test y && is_prefix (name y) x) 1 0
    by true e = omega arith
    by false e = e

-- the name of a row that passes a test is among the names of those that do
pub row_among : {Y : Type 0} (name : Y → List (List ℕ)) (test : Y → Bool) (ys : List Y) (y : Y) → Contains ys y → test y ≡ true →
    Contains (map name (filter test ys)) (name y)
row_among name test ys y among passes = contains_map name (filter test ys) y (contains_filter test ys y passes among)

-- a name among those of rows that pass a test is that of one of them
pub among_rows : {Y : Type 0} (name : Y → List (List ℕ)) (test : Y → Bool) (ys : List Y) (p : List (List ℕ)) → Contains (map name (filter test ys)) p →
    (y : Y) × Contains ys y × (test y ≡ true) × (name y ≡ p)
among_rows name test ys p among =
    let found = mapped_contains name (filter test ys) p among in
    let passes = filtered_contains test ys found.0 found.1 in
    (found.0, passes.0, passes.1, found.2)

-- where the rows that pass a test cover no path twice, two of them that another test tells apart are apart
pub apart_rows : {Y : Type 0} (name : Y → List (List ℕ)) (test cut : Y → Bool) (ys : List Y) →
    ((x : List (List ℕ)) → covering x (map name (filter test ys)) ≤ 1) →
    (y z : Y) → Contains ys y → Contains ys z → test y ≡ true → test z ≡ true → cut y ≡ true → cut z ≡ false → overlap (name y) (name z) ≡ false
apart_rows name test cut ys most y z among others ty tz cy cz =
    apart_across (map name (filter (λ v. test v && cut v) ys)) (map name (filter (λ v. test v && not (cut v)) ys))
    (λ x. omega (arith, most x, covering_rows-cut name test cut x ys))
    (name y) (name z)
    (row_among name (λ v. test v && cut v) ys y among (and_from (test y) (cut y) ty cy))
    (row_among name (λ v. test v && not (cut v)) ys z others (and_from (test z) (not (cut z)) tz (ap not cz)))

-- where rows cover a path at most once, those at one place count no more than that place
pub covering_rows-at_most : {Y : Type 0} (name : Y → List (List ℕ)) (test : Y → Bool) (p x : List (List ℕ)) (ys : List Y) →
    ((y : Y) → Contains ys y → test y ≡ true → name y ≡ p) → covering x (map name ys) ≤ 1 →
    covering x (map name (filter test ys)) ≤ cond (is_prefix p x) 1 0
covering_rows-at_most name test p x ys at most = by (is_prefix p x) refl
  where
    by : (b : Bool) → is_prefix p x ≡ b → covering x (map name (filter test ys)) ≤ cond b 1 0
    by true h = omega (arith, covering_rows-filter name test x ys)
    by false h =
        omega (
          arith,
          covering_none x (map name (filter test ys))
              (λ q among.
              let row = among_rows name test ys q among in
              let same : q ≡ p = sym row.3 ∙ at row.0 row.1 row.2 in
              ap (λ (l : List (List ℕ)). is_prefix l x) same ∙ h),
        )

-- and just as much where there is one
pub covering_rows-exactly : {Y : Type 0} (name : Y → List (List ℕ)) (test : Y → Bool) (p x : List (List ℕ)) (ys : List Y) →
    ((y : Y) → Contains ys y → test y ≡ true → name y ≡ p) → covering x (map name ys) ≤ 1 →
    (y : Y) → Contains ys y → test y ≡ true → covering x (map name (filter test ys)) ≡ cond (is_prefix p x) 1 0
covering_rows-exactly name test p x ys at most y among passes =
    let here : name y ≡ p = at y among passes in
    omega (
      arith,
      covering_rows-at_most name test p x ys at most,
      counts_same (name y) p x (ap (λ (l : List (List ℕ)). is_prefix l x) here),
      covering_among (name y) x (map name (filter test ys)) (row_among name test ys y among passes),
    )
