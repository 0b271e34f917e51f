-- Debris in order of path: what comes before a path, or is at or below it, stands in front.
use Rattle.std.proofs.Common.{◌≡◌, ◌<◌, ◌≤◌, ℕ, zero, suc, Bool, true, false, not, ◌||◌, List, [], ◌∷◌, length, take, drop, get_or, inl, inr, ◌⊎◌, refl, ◌∙◌, sym, ap, ap₂, subst, append-nil, arith}
use Rattle.std.specs.List.{AllWithin, list_all, list_any}
use Rattle.std.specs.List.Sorted.{IsPartitionPoint, IsPartitionedBy}
use Rattle.std.specs.Ordering.{is_lt, ordering_reverse}
use Rattle.std.specs.declared.cmp.Ordering.{Ordering}
use Rattle.std.specs.declared.cmp.Ordering.TheVariants.{Less, Equal, Greater}
use Rattle.std.proofs.lemmas.Bool.{and_from, and_parts, both_ways, or_left, or_right}
use Rattle.mat_path.specs.Names.{is_prefix, overlap, path_cmp}
use Rattle.mat_path.proofs.PathLemmas.{before_apart, lt_less, path_cmp_equal, path_cmp_total, path_cmp-refl, prefix_not_greater, prefix-refl, prefix_split}
use Rattle.mat_model.specs.Rows.{comes_before}
use Rattle.mat_model.specs.WorkState.{Debris}
use Rattle.debris_list.specs.Pieces.{are_apart, is_apart, is_before, is_up_to}

-- ---- paths

pub before_trans : (p q r : List (List ℕ)) → comes_before p q ≡ true → comes_before q r ≡ true → comes_before p r ≡ true
before_trans p q r first second = ap is_lt (path_cmp_total.trans p q r (lt_less (path_cmp p q) first) (lt_less (path_cmp q r) second))

pub before_irrefl : (p : List (List ℕ)) → comes_before p p ≡ false
before_irrefl p = ap is_lt (path_cmp-refl p)

-- no two paths come before one another
pub before_asym : (p q : List (List ℕ)) → comes_before p q ≡ true → comes_before q p ≡ false
before_asym p q first = by (comes_before q p) refl
  where
    by : (b : Bool) → comes_before q p ≡ b → comes_before q p ≡ false
    by false is = is
    by true is = absurd (both_ways (comes_before p p) (before_irrefl p) (before_trans p q p first is))

-- a path is before another, the same, or behind it
pub before_cases : (p q : List (List ℕ)) → comes_before p q ≡ false → (p ≡ q) ⊎ (comes_before q p ≡ true)
before_cases p q not_before = by (path_cmp p q) refl
  where
    by : (o : Ordering) → path_cmp p q ≡ o → (p ≡ q) ⊎ (comes_before q p ≡ true)
    by Less is = absurd (both_ways (comes_before p q) not_before (ap is_lt is))
    by Equal is = inl (path_cmp_equal p q is)
    by Greater is = inr (ap is_lt (path_cmp_total.antisymm q p ∙ ap ordering_reverse is))

-- what is behind a path but not below it is behind all that is below it
pub behind_below : (p q r : List (List ℕ)) → comes_before p q ≡ true → is_prefix p q ≡ false → is_prefix p r ≡ true → comes_before r q ≡ true
behind_below p q r behind apart below =
    let clear : overlap p q ≡ false = by (is_prefix q p) refl in
    ap is_lt (ap₂ path_cmp (prefix_split p r below) (sym (append-nil q)) ∙ before_apart p q (lt_less (path_cmp p q) behind) clear (drop (length p) r) [])
  where
    above : is_prefix q p ≡ true → (path_cmp q p ≡ Less) ⊎ (path_cmp q p ≡ Equal) → overlap p q ≡ false
    above is (inl less) = absurd (both_ways (comes_before q p) (before_asym p q behind) (ap is_lt less))
    above is (inr same) = absurd (both_ways (comes_before p p) (before_irrefl p) (subst (λ (x : List (List ℕ)). comes_before p x ≡ true) (path_cmp_equal q p same) behind))

    by : (b : Bool) → is_prefix q p ≡ b → overlap p q ≡ false
    by true is = above is (prefix_not_greater q p is)
    by false is = ap₂ (λ (a b : Bool). a || b) apart is

-- ---- lists

-- what holds of all holds at a place
all_at : (p : Debris → Bool) (xs : List Debris) (k : ℕ) (d : Debris) → list_all p xs ≡ true → k < length xs → p (get_or xs k d) ≡ true
all_at p [] k d all within = absurd (omega arith)
all_at p (x ∷ xs) zero d all within = (and_parts (p x) (list_all p xs) all).0
all_at p (x ∷ xs) (suc k) d all within = all_at p xs k d (and_parts (p x) (list_all p xs) all).1 (omega arith)

-- a test that is passed by all in front of what passes it parts a list in order
parted : (p : Debris → Bool) → ((first second : Debris) → is_apart first second ≡ true → p second ≡ true → p first ≡ true) → (xs : List Debris) →
    are_apart xs ≡ true → IsPartitionedBy p xs
parted p closed [] up i j d order within is = absurd (omega arith)
parted p closed (x ∷ xs) up zero zero d order within is = is
parted p closed (x ∷ xs) up zero (suc j) d order within is =
    closed x (get_or xs j d) (all_at (is_apart x) xs j d (and_parts (list_all (is_apart x) xs) (are_apart xs) up).0 (omega arith)) is
parted p closed (x ∷ xs) up (suc i) zero d order within is = absurd (omega arith)
parted p closed (x ∷ xs) up (suc i) (suc j) d order within is =
    parted p closed xs (and_parts (list_all (is_apart x) xs) (are_apart xs) up).1 i j d (omega arith) (omega arith) is

-- all in front of a place pass a test, and nothing from there on does
front_passes : (p : Debris → Bool) (xs : List Debris) (k : ℕ) → k ≤ length xs → AllWithin (λ (x : Debris). p x ≡ true) xs 0 k → list_all p (take k xs) ≡ true
front_passes p xs zero within each = refl
front_passes p [] (suc k) within each = refl
front_passes p (x ∷ xs) (suc k) within each =
    and_from (p x) (list_all p (take k xs)) (each 0 x (omega arith) (omega arith))
    (front_passes p xs k (omega arith) (λ j d low high. each (suc j) d (omega arith) (omega arith)))

rest_fails : (p : Debris → Bool) (xs : List Debris) (k : ℕ) → AllWithin (λ (x : Debris). p x ≡ false) xs k (length xs) → list_any p (drop k xs) ≡ false
rest_fails p [] zero each = refl
rest_fails p [] (suc k) each = refl
rest_fails p (x ∷ xs) zero each =
    ap₂ (λ (a b : Bool). a || b) (each 0 x (omega arith) (omega arith)) (rest_fails p xs zero (λ j d low high. each (suc j) d (omega arith) (omega arith)))
rest_fails p (x ∷ xs) (suc k) each = rest_fails p xs k (λ j d low high. each (suc j) d (omega arith) (omega arith))

-- ---- the two searches

before_closed : (path : List (List ℕ)) (first second : Debris) → is_apart first second ≡ true → is_before path second ≡ true → is_before path first ≡ true
before_closed path first second apart is =
    before_trans first.path second.path path (and_parts (comes_before first.path second.path) (not (overlap first.path second.path)) apart).0 is

up_to_closed : (path : List (List ℕ)) (first second : Debris) → is_apart first second ≡ true → is_up_to path second ≡ true → is_up_to path first ≡ true
up_to_closed path first second apart is = by (is_before path first) (is_prefix path first.path) refl refl
  where
    order : comes_before first.path second.path ≡ true
    order = (and_parts (comes_before first.path second.path) (not (overlap first.path second.path)) apart).0

    from_second : (b : Bool) → is_before path second ≡ b → is_before path first ≡ false → is_prefix path first.path ≡ false → is_up_to path first ≡ true
    from_second true before not_before not_below = absurd (both_ways (is_before path first) not_before (before_closed path first second apart before))
    from_second false later not_before not_below =
        let below : is_prefix path second.path ≡ true = sym (ap (λ (b : Bool). b || is_prefix path second.path) later) ∙ is in
        elim (before_cases first.path path not_before) [
          | inl same ↦ absurd (both_ways (is_prefix path first.path) not_below (subst (λ (x : List (List ℕ)). is_prefix path x ≡ true) (sym same) (prefix-refl path)))
          | inr behind ↦
              absurd (both_ways (comes_before second.path first.path) (before_asym first.path second.path order)
              (behind_below path first.path second.path behind not_below below))
        ]

    by : (b c : Bool) → is_before path first ≡ b → is_prefix path first.path ≡ c → is_up_to path first ≡ true
    by true c before below = or_left (is_before path first) (is_prefix path first.path) before
    by false true before below = or_right (is_before path first) (is_prefix path first.path) below
    by false false before below = from_second (is_before path second) refl before below

pub before_parted : (path : List (List ℕ)) (xs : List Debris) → are_apart xs ≡ true → IsPartitionedBy (is_before path) xs
before_parted path xs up = parted (is_before path) (before_closed path) xs up

pub up_to_parted : (path : List (List ℕ)) (xs : List Debris) → are_apart xs ≡ true → IsPartitionedBy (is_up_to path) xs
up_to_parted path xs up = parted (is_up_to path) (up_to_closed path) xs up

pub point_front : (p : Debris → Bool) (xs : List Debris) (k : ℕ) → k ≤ length xs → IsPartitionPoint (λ x. p x ≡ true) (λ x. p x ≡ false) xs k → list_all p (take k xs) ≡ true
point_front p xs k within point = front_passes p xs k within point.0

pub point_rest : (p : Debris → Bool) (xs : List Debris) (k : ℕ) → IsPartitionPoint (λ x. p x ≡ true) (λ x. p x ≡ false) xs k → list_any p (drop k xs) ≡ false
point_rest p xs k point = rest_fails p xs k point.1
