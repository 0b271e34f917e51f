-- Elements of a list that is cut, filtered or mapped.
use Rattle.std.proofs.Common.{◌≡◌, zero, suc, Bool, true, false, ◌&&◌, cond, ◌⊎◌, inl, inr, List, [], ◌∷◌, ◌++◌, refl, sym, ap, subst, ◌∙◌, map, Contains, arith}
use Rattle.std.specs.List.{filter, list_all, list_any}
use Rattle.std.proofs.lemmas.Bool.{and_parts, or_from, or_parts}
use Rattle.std.proofs.lemmas.List.Folds.{list_all-append}

-- an element of a list is its first or one of the others
pub contains_cases : {Y : Type 0} (y : Y) (ys : List Y) (z : Y) → Contains (y ∷ ys) z → (y ≡ z) ⊎ Contains ys z
contains_cases y ys z (zero, within, at) = inl at
contains_cases y ys z (suc k, within, at) = inr (k, omega arith, at)

-- an element of the others is one of the list
pub contains_more : {Y : Type 0} (y : Y) (ys : List Y) (z : Y) → Contains ys z → Contains (y ∷ ys) z
contains_more y ys z (k, within, at) = (suc k, omega arith, at)

-- the first of a list is an element of it
pub contains_first : {Y : Type 0} (y : Y) (ys : List Y) → Contains (y ∷ ys) y
contains_first y ys = (zero, omega arith, refl)

-- what is among some and passes a test is among those that pass it
pub contains_filter : {Y : Type 0} (test : Y → Bool) (ys : List Y) (z : Y) → test z ≡ true → Contains ys z → Contains (filter test ys) z
contains_filter test [] z passes (k, within, at) = absurd (omega arith)
contains_filter {Y = Y} test (y ∷ ys) z passes among = by (test y) refl (contains_cases y ys z among) (contains_filter test ys z passes)
  where
    by : (b : Bool) → test y ≡ b → (y ≡ z) ⊎ Contains ys z → (Contains ys z → Contains (filter test ys) z) →
        Contains (cond b (y ∷ filter test ys) (filter test ys)) z
    by true is (inl same) rest = subst (λ (v : Y). Contains (y ∷ filter test ys) v) same (contains_first y (filter test ys))
    by true is (inr later) rest = contains_more y (filter test ys) z (rest later)
    by false is (inl same) rest = let fails : test z ≡ false = ap test (sym same) ∙ is in absurd cc
    by false is (inr later) rest = rest later

-- what is among those that pass a test is among all, and passes it
pub filtered_contains : {Y : Type 0} (test : Y → Bool) (ys : List Y) (z : Y) → Contains (filter test ys) z → Contains ys z × (test z ≡ true)
filtered_contains test [] z (k, within, at) = absurd (omega arith)
filtered_contains {Y = Y} test (y ∷ ys) z among = by (test y) refl among (filtered_contains test ys z)
  where
    later : Contains ys z × (test z ≡ true) → Contains (y ∷ ys) z × (test z ≡ true)
    later found = (contains_more y ys z found.0, found.1)

    by : (b : Bool) → test y ≡ b → Contains (cond b (y ∷ filter test ys) (filter test ys)) z →
        (Contains (filter test ys) z → Contains ys z × (test z ≡ true)) → Contains (y ∷ ys) z × (test z ≡ true)
    by true is rest found =
        elim (contains_cases y (filter test ys) z rest) [
          | inl same ↦ (subst (λ (v : Y). Contains (y ∷ ys) v) same (contains_first y ys), ap test (sym same) ∙ is)
          | inr more ↦ later (found more)
        ]
    by false is rest found = later (found rest)

-- the image of what is among some is among their images
pub contains_map : {Y Z : Type 0} (f : Y → Z) (ys : List Y) (y : Y) → Contains ys y → Contains (map f ys) (f y)
contains_map f [] y (k, within, at) = absurd (omega arith)
contains_map {Z = Z} f (first ∷ ys) y among =
    elim (contains_cases first ys y among) [
      | inl same ↦ subst (λ (v : Z). Contains (f first ∷ map f ys) v) (ap f same) (contains_first (f first) (map f ys))
      | inr later ↦ contains_more (f first) (map f ys) (f y) (contains_map f ys y later)
    ]

-- what is among the images of some is the image of one of them
pub mapped_contains : {Y Z : Type 0} (f : Y → Z) (ys : List Y) (z : Z) → Contains (map f ys) z → (y : Y) × Contains ys y × (f y ≡ z)
mapped_contains f [] z (k, within, at) = absurd (omega arith)
mapped_contains f (first ∷ ys) z among =
    elim (contains_cases (f first) (map f ys) z among) [
      | inl same ↦ (first, contains_first first ys, same)
      | inr later ↦ let found = mapped_contains f ys z later in (found.0, contains_more first ys found.0 found.1, found.2)
    ]

-- where none of some passes a test, each of them fails it
pub each_fails : {Y : Type 0} (test : Y → Bool) (ys : List Y) (y : Y) → list_any test ys ≡ false → Contains ys y → test y ≡ false
each_fails test [] y none (k, within, at) = absurd (omega arith)
each_fails test (first ∷ ys) y none among =
    let parts = or_parts (test first) (list_any test ys) none in
    elim (contains_cases first ys y among) [
      | inl same ↦ ap test (sym same) ∙ parts.0
      | inr later ↦ each_fails test ys y parts.1 later
    ]

-- where each of some fails a test, none passes it
pub none_passes : {Y : Type 0} (test : Y → Bool) (ys : List Y) → ((y : Y) → Contains ys y → test y ≡ false) → list_any test ys ≡ false
none_passes test [] fails = refl
none_passes test (y ∷ ys) fails =
    or_from (test y) (list_any test ys) (fails y (contains_first y ys)) (none_passes test ys (λ z among. fails z (contains_more y ys z among)))

-- a list all of which passes a test is kept whole by it
pub filter_all : {Y : Type 0} (test : Y → Bool) (ys : List Y) → list_all test ys ≡ true → filter test ys ≡ ys
filter_all test [] all = refl
filter_all {Y = Y} test (y ∷ ys) all =
    let parts = and_parts (test y) (list_all test ys) all in rw parts.0 (ap (λ (zs : List Y). y ∷ zs) (filter_all test ys parts.1))

-- where all of some pass a test and one more passes it too, all of them together do
pub all_push : {Y : Type 0} (test : Y → Bool) (ys : List Y) (y : Y) → list_all test ys ≡ true → test y ≡ true → list_all test (ys ++ y ∷ []) ≡ true
all_push test ys y all passes = list_all-append test ys (y ∷ []) ∙ ap (λ b. b && (test y && true)) all ∙ ap (λ b. b && true) passes
