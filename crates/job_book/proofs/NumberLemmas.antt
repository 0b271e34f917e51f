-- A job is found by its number in a list that ascends.
use Rattle.std.proofs.Common.{◌≡◌, ◌<◌, ◌≤◌, ◌+◌, ◌-◌, ◌&&◌, slice_get, ℕ, zero, suc, nat_lt, Bool, true, false, not, cond, List, [], ◌∷◌, ◌++◌, map, take, drop, get_or, length, refl, ◌∙◌, sym, ap, arith, Option, Some, None}
use Rattle.std.proofs.lemmas.Bool.{and_from, and_parts, and_right, eqb-true, le-leb, leb-false, leb-true, ne_eqb, not-true}
use Rattle.std.specs.List.{filter, find, list_all}
use Rattle.std.specs.List.Sorted.{IsPartitionedBy}
use Rattle.mat_model.specs.Books.{are_ascending}
use Rattle.job_book.specs.declared.running.Running.{Running}
use Rattle.mat_model.specs.WorkState.{is_other_job}
use Rattle.path_trie.proofs.Lists.{filter_in}
use Rattle.job_book.specs.Jobs.{job_of, jobs_of}
use Rattle.job_book.specs.Numbers.{is_earlier, is_number, is_other, is_past, number_of, IsPlaceOf}

-- ---- the order

less_at : (n : ℕ) (rs : List Running) (j : ℕ) (d : Running) → list_all (nat_lt n) (map number_of rs) ≡ true → j < length rs → nat_lt n (number_of (get_or rs j d)) ≡ true
less_at n [] j d all within = absurd (omega (arith, within))
less_at n (x ∷ rs) zero d all within = (and_parts (nat_lt n (number_of x)) (list_all (nat_lt n) (map number_of rs)) all).0
less_at n (x ∷ rs) (suc j) d all within =
    less_at n rs j d (and_parts (nat_lt n (number_of x)) (list_all (nat_lt n) (map number_of rs)) all).1 (omega (arith, within))

-- the first of some jobs, and the others
pub first_less : (x : Running) (rs : List Running) → are_ascending (map number_of (x ∷ rs)) ≡ true
    → (list_all (nat_lt (number_of x)) (map number_of rs) ≡ true) × (are_ascending (map number_of rs) ≡ true)
first_less x rs ascend = and_parts (list_all (nat_lt (number_of x)) (map number_of rs)) (are_ascending (map number_of rs)) ascend

rises : (rs : List Running) (i j : ℕ) (d : Running) → are_ascending (map number_of rs) ≡ true → i ≤ j → j < length rs
    → number_of (get_or rs i d) ≤ number_of (get_or rs j d)
rises [] i j d ascend order within = absurd (omega (arith, within))
rises (x ∷ rs) zero zero d ascend order within = omega arith
rises (x ∷ rs) zero (suc j) d ascend order within =
    let less = leb-true (suc (number_of x)) (number_of (get_or rs j d)) (less_at (number_of x) rs j d (first_less x rs ascend).0 (omega (arith, within))) in omega (arith, less)
rises (x ∷ rs) (suc i) zero d ascend order within = absurd (omega (arith, order))
rises (x ∷ rs) (suc i) (suc j) d ascend order within = rises rs i j d (first_less x rs ascend).1 (omega (arith, order)) (omega (arith, within))

pub earlier_parts : (n : ℕ) (rs : List Running) → are_ascending (map number_of rs) ≡ true → IsPartitionedBy (is_earlier n) rs
earlier_parts n rs ascend i j d order within early =
    let less = leb-true (suc (number_of (get_or rs j d))) n early in
    let rise = rises rs i j d ascend order within in le-leb (suc (number_of (get_or rs i d))) n (omega (arith, less, rise))

-- ---- what is found

earlier_other : (n : ℕ) (r : Running) → is_earlier n r ≡ true → is_number n r ≡ false
earlier_other n r early = let less = leb-true (suc (number_of r)) n early in ne_eqb (number_of r) n (λ same. absurd (omega (arith, less, same)))

later_other : (n m : ℕ) (r : Running) → n ≤ m → nat_lt m (number_of r) ≡ true → is_number n r ≡ false
later_other n m r low late = let less = leb-true (suc m) (number_of r) late in ne_eqb (number_of r) n (λ same. absurd (omega (arith, low, less, same)))

later_none : (n m : ℕ) (rs : List Running) → n ≤ m → list_all (nat_lt m) (map number_of rs) ≡ true → find (is_number n) rs ≡ None
later_none n m [] low all = refl
later_none n m (x ∷ rs) low all =
    let parts = and_parts (nat_lt m (number_of x)) (list_all (nat_lt m) (map number_of rs)) all in
    ap (λ (b : Bool). cond b (Some x) (find (is_number n) rs)) (later_other n m x low parts.0) ∙ later_none n m rs low parts.1

later_left : (n m : ℕ) (rs : List Running) → n ≤ m → list_all (nat_lt m) (map number_of rs) ≡ true → filter (is_other n) rs ≡ rs
later_left n m [] low all = refl
later_left n m (x ∷ rs) low all =
    let parts = and_parts (nat_lt m (number_of x)) (list_all (nat_lt m) (map number_of rs)) all in
    ap (λ (b : Bool). cond (not b) (x ∷ filter (is_other n) rs) (filter (is_other n) rs)) (later_other n m x low parts.0)
    ∙ ap (λ (t : List Running). x ∷ t) (later_left n m rs low parts.1)

pub none_found : (n : ℕ) (rs : List Running) (k : ℕ) → are_ascending (map number_of rs) ≡ true → list_all (is_earlier n) (take k rs) ≡ true
    → list_all (is_past n) (drop k rs) ≡ true → ((d : Running) → k < length rs → is_number n (get_or rs k d) ≡ false) → find (is_number n) rs ≡ None
none_found n [] k ascend front back off = refl
none_found n (x ∷ rs) zero ascend front back off =
    let other = off x (omega arith) in
    let late = leb-false (suc (number_of x)) n (not-true (is_earlier n x) (and_parts (is_past n x) (list_all (is_past n) rs) back).0) in
    ap (λ (b : Bool). cond b (Some x) (find (is_number n) rs)) other
    ∙ later_none n (number_of x) rs (omega (arith, late)) (first_less x rs ascend).0
none_found n (x ∷ rs) (suc k) ascend front back off =
    let parts = and_parts (is_earlier n x) (list_all (is_earlier n) (take k rs)) front in
    ap (λ (b : Bool). cond b (Some x) (find (is_number n) rs)) (earlier_other n x parts.0)
    ∙ none_found n rs k (first_less x rs ascend).1 parts.1 back (λ d within. off d (omega (arith, within)))

pub one_found : (n : ℕ) (rs : List Running) (k : ℕ) (d : Running) → k < length rs → list_all (is_earlier n) (take k rs) ≡ true
    → is_number n (get_or rs k d) ≡ true → find (is_number n) rs ≡ Some (get_or rs k d)
one_found n [] k d within front here = absurd (omega (arith, within))
one_found n (x ∷ rs) zero d within front here = ap (λ (b : Bool). cond b (Some x) (find (is_number n) rs)) here
one_found n (x ∷ rs) (suc k) d within front here =
    let parts = and_parts (is_earlier n x) (list_all (is_earlier n) (take k rs)) front in
    ap (λ (b : Bool). cond b (Some x) (find (is_number n) rs)) (earlier_other n x parts.0)
    ∙ one_found n rs k d (omega (arith, within)) parts.1 here

pub others_left : (n : ℕ) (rs : List Running) (k : ℕ) (d : Running) → are_ascending (map number_of rs) ≡ true → k < length rs
    → list_all (is_earlier n) (take k rs) ≡ true → is_number n (get_or rs k d) ≡ true → take k rs ++ drop (suc k) rs ≡ filter (is_other n) rs
others_left n [] k d ascend within front here = absurd (omega (arith, within))
others_left n (x ∷ rs) zero d ascend within front here =
    let same = eqb-true (number_of x) n here in
    sym (ap (λ (b : Bool). cond (not b) (x ∷ filter (is_other n) rs) (filter (is_other n) rs)) here
    ∙ later_left n (number_of x) rs (omega (arith, same)) (first_less x rs ascend).0)
others_left n (x ∷ rs) (suc k) d ascend within front here =
    let parts = and_parts (is_earlier n x) (list_all (is_earlier n) (take k rs)) front in
    ap (λ (t : List Running). x ∷ t) (others_left n rs k d (first_less x rs ascend).1 (omega (arith, within)) parts.1 here)
    ∙ sym (ap (λ (b : Bool). cond (not b) (x ∷ filter (is_other n) rs) (filter (is_other n) rs)) (earlier_other n x parts.0))

pub none_left : (n : ℕ) (rs : List Running) → find (is_number n) rs ≡ None → rs ≡ filter (is_other n) rs
none_left n [] none = refl
none_left n (x ∷ rs) none = by (is_number n x) refl none (none_left n rs)
  where
    by : (b : Bool) → is_number n x ≡ b → cond b (Some x) (find (is_number n) rs) ≡ None → (find (is_number n) rs ≡ None → rs ≡ filter (is_other n) rs)
        → x ∷ rs ≡ cond (not b) (x ∷ filter (is_other n) rs) (filter (is_other n) rs)
    by true is none more = let lost : ◌≡◌ {A = Option Running} (Some x) None = none in absurd cc
    by false is none more = ap (λ (t : List Running). x ∷ t) (more none)

-- ---- the order, where a job comes or goes

left_less : (m : ℕ) (n : ℕ) (rs : List Running) → list_all (nat_lt m) (map number_of rs) ≡ true → list_all (nat_lt m) (map number_of (filter (is_other n) rs)) ≡ true
left_less m n [] all = refl
left_less m n (x ∷ rs) all =
    let parts = and_parts (nat_lt m (number_of x)) (list_all (nat_lt m) (map number_of rs)) all in by (is_number n x) parts.0 (left_less m n rs parts.1)
  where
    by : (b : Bool) → nat_lt m (number_of x) ≡ true → list_all (nat_lt m) (map number_of (filter (is_other n) rs)) ≡ true
        → list_all (nat_lt m) (map number_of (cond (not b) (x ∷ filter (is_other n) rs) (filter (is_other n) rs))) ≡ true
    by true less more = more
    by false less more = and_from (nat_lt m (number_of x)) (list_all (nat_lt m) (map number_of (filter (is_other n) rs))) less more

pub left_ascend : (n : ℕ) (rs : List Running) → are_ascending (map number_of rs) ≡ true → are_ascending (map number_of (filter (is_other n) rs)) ≡ true
left_ascend n [] ascend = refl
left_ascend n (x ∷ rs) ascend = let parts = first_less x rs ascend in by (is_number n x) (left_less (number_of x) n rs parts.0) (left_ascend n rs parts.1)
  where
    by : (b : Bool) → list_all (nat_lt (number_of x)) (map number_of (filter (is_other n) rs)) ≡ true → are_ascending (map number_of (filter (is_other n) rs)) ≡ true
        → are_ascending (map number_of (cond (not b) (x ∷ filter (is_other n) rs) (filter (is_other n) rs))) ≡ true
    by true less more = more
    by false less more = and_from (list_all (nat_lt (number_of x)) (map number_of (filter (is_other n) rs))) (are_ascending (map number_of (filter (is_other n) rs))) less more

more_less : (m : ℕ) (r : Running) (rs : List Running) → list_all (nat_lt m) (map number_of rs) ≡ true → nat_lt m (number_of r) ≡ true
    → list_all (nat_lt m) (map number_of (rs ++ r ∷ [])) ≡ true
more_less m r [] all less = and_from (nat_lt m (number_of r)) true less refl
more_less m r (x ∷ rs) all less =
    let parts = and_parts (nat_lt m (number_of x)) (list_all (nat_lt m) (map number_of rs)) all in
    and_from (nat_lt m (number_of x)) (list_all (nat_lt m) (map number_of (rs ++ r ∷ []))) parts.0 (more_less m r rs parts.1 less)

pub more_ascend : (r : Running) (rs : List Running) → are_ascending (map number_of rs) ≡ true → list_all (is_earlier (number_of r)) rs ≡ true
    → are_ascending (map number_of (rs ++ r ∷ [])) ≡ true
more_ascend r [] ascend later = refl
more_ascend r (x ∷ rs) ascend later =
    let parts = first_less x rs ascend in
    let late = and_parts (is_earlier (number_of r) x) (list_all (is_earlier (number_of r)) rs) later in
    and_from (list_all (nat_lt (number_of x)) (map number_of (rs ++ r ∷ []))) (are_ascending (map number_of (rs ++ r ∷ [])))
    (more_less (number_of x) r rs parts.0 late.0) (more_ascend r rs parts.1 late.1)

-- what stands at a place doesn't depend on what would stand in for it
pub same_at : (rs : List Running) (k : ℕ) (d e : Running) → k < length rs → get_or rs k d ≡ get_or rs k e
same_at [] k d e within = absurd (omega (arith, within))
same_at (x ∷ rs) zero d e within = refl
same_at (x ∷ rs) (suc k) d e within = same_at rs k d e (omega (arith, within))

-- the job at the place of a number, and the others
pub taken_is : (n : ℕ) (rs : List Running) (k : ℕ) (r : Running) → IsPlaceOf n rs k → r ≡ get_or rs k r → Some r ≡ find (is_number n) rs
taken_is n rs k r place is = ap (λ (x : Running). Some x) is ∙ sym (one_found n rs k r place.within place.front (place.at r))

pub left_is : (n : ℕ) (rs news : List Running) (k : ℕ) (r : Running) → are_ascending (map number_of rs) ≡ true → IsPlaceOf n rs k
    → news ≡ take k rs ++ drop (k + 1) rs → news ≡ filter (is_other n) rs
left_is n rs news k r ascend place left =
    let one : suc k ≡ k + 1 = omega arith in
    left ∙ ap (λ (i : ℕ). take k rs ++ drop i rs) (sym one) ∙ others_left n rs k r ascend place.within place.front (place.at r)

-- in the model's words
pub jobs_left : (n : ℕ) (rs news : List Running) → news ≡ filter (is_other n) rs → jobs_of news ≡ filter (is_other_job n) (jobs_of rs)
jobs_left n rs news left = ap jobs_of left ∙ sym (filter_in job_of (is_other_job n) (is_other n) (λ r. refl) rs)

-- ---- the last job

less_get : (m : ℕ) (rs : List Running) (k : ℕ) (x : Running) → list_all (nat_lt m) (map number_of rs) ≡ true → Some x ≡ slice_get rs k → nat_lt m (number_of x) ≡ true
less_get m [] k x all is = let lost : ◌≡◌ {A = Option Running} (Some x) None = is in absurd cc
less_get m (r ∷ rs) zero x all is =
    let same : x ≡ r = cc in ap (λ (y : Running). nat_lt m (number_of y)) same ∙ (and_parts (nat_lt m (number_of r)) (list_all (nat_lt m) (map number_of rs)) all).0
less_get m (r ∷ rs) (suc k) x all is = less_get m rs k x (and_parts (nat_lt m (number_of r)) (list_all (nat_lt m) (map number_of rs)) all).1 is

later_at : (n : ℕ) (rs : List Running) (k : ℕ) (x : Running) → are_ascending (map number_of rs) ≡ true → suc k ≡ length rs → Some x ≡ slice_get rs k
    → nat_lt (number_of x) n ≡ list_all (is_earlier n) rs
later_at n [] k x ascend long is = absurd (omega (arith, long))
later_at n (r ∷ []) zero x ascend long is =
    let same : x ≡ r = cc in ap (λ (y : Running). nat_lt (number_of y) n) same ∙ sym (and_true (is_earlier n r))
  where
    and_true : (b : Bool) → (b && true) ≡ b
    and_true true = refl
    and_true false = refl
later_at n (r ∷ s ∷ rs) zero x ascend long is = absurd (omega (arith, long))
later_at n (r ∷ rs) (suc k) x ascend long is =
    let parts = first_less r rs ascend in
    by (nat_lt (number_of x) n) refl (less_get (number_of r) rs k x parts.0 is) (later_at n rs k x parts.1 (omega (arith, long)) is)
  where
    by : (b : Bool) → nat_lt (number_of x) n ≡ b → nat_lt (number_of r) (number_of x) ≡ true → nat_lt (number_of x) n ≡ list_all (is_earlier n) rs
        → nat_lt (number_of x) n ≡ (is_earlier n r && list_all (is_earlier n) rs)
    by true early less more =
        let low = leb-true (suc (number_of r)) (number_of x) less in
        let high = leb-true (suc (number_of x)) n early in
        early ∙ sym (and_from (is_earlier n r) (list_all (is_earlier n) rs) (le-leb (suc (number_of r)) n (omega (arith, low, high))) (sym more ∙ early))
    by false late less more = late ∙ sym (and_right (is_earlier n r) (list_all (is_earlier n) rs) (sym more ∙ late))

pub later_is : (n : ℕ) (rs : List Running) (x : Running) → are_ascending (map number_of rs) ≡ true → Some x ≡ slice_get rs (length rs - 1)
    → nat_lt (number_of x) n ≡ list_all (is_earlier n) rs
later_is n [] x ascend is = let lost : ◌≡◌ {A = Option Running} (Some x) None = is in absurd cc
later_is n (r ∷ rs) x ascend is = later_at n (r ∷ rs) (length (r ∷ rs) - 1) x ascend (omega arith) is
