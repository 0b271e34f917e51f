-- Lists that are filtered, searched, and in strict order.
use Rattle.std.proofs.Common.{◌≡◌, ◌<◌, ◌≤◌, ℕ, zero, suc, Bool, true, false, cond, List, [], ◌∷◌, ◌++◌, map, length, take, drop, get_or, refl, ◌∙◌, sym, ap, arith}
use Rattle.std.proofs.lemmas.Bool.{and_from}
use Rattle.std.proofs.lemmas.List.Folds.{list_all-append}
use Rattle.std.specs.Cmp.{first_so, second_so}
use Rattle.std.specs.List.{filter, find, list_all, AllWithin}
use Rattle.std.specs.declared.option.Option.{Option}
use Rattle.std.specs.declared.option.Option.TheVariants.{Some, None}

pub all_left : {X : Type 0} (p : X → Bool) (xs ys : List X) → list_all p (xs ++ ys) ≡ true → list_all p xs ≡ true
all_left p xs ys e = first_so (list_all p xs) (list_all p ys) (sym (list_all-append p xs ys) ∙ e)

pub all_right : {X : Type 0} (p : X → Bool) (xs ys : List X) → list_all p (xs ++ ys) ≡ true → list_all p ys ≡ true
all_right p xs ys e = second_so (list_all p xs) (list_all p ys) (sym (list_all-append p xs ys) ∙ e)

pub all_join : {X : Type 0} (p : X → Bool) (xs ys : List X) → list_all p xs ≡ true → list_all p ys ≡ true → list_all p (xs ++ ys) ≡ true
all_join p xs ys e f = list_all-append p xs ys ∙ and_from (list_all p xs) (list_all p ys) e f

-- what follows of each element
pub all_so : {X : Type 0} (p q : X → Bool) → ((x : X) → p x ≡ true → q x ≡ true) → (xs : List X) → list_all p xs ≡ true → list_all q xs ≡ true
all_so p q f [] e = refl
all_so p q f (x ∷ xs) e = and_from (q x) (list_all q xs) (f x (first_so (p x) (list_all p xs) e)) (all_so p q f xs (second_so (p x) (list_all p xs) e))

-- what holds of each element holds of those that are left
pub all_filter : {X : Type 0} (p t : X → Bool) (xs : List X) → list_all p xs ≡ true → list_all p (filter t xs) ≡ true
all_filter p t [] e = refl
all_filter p t (x ∷ xs) e = by (t x) (all_filter p t xs (second_so (p x) (list_all p xs) e))
  where
    by : (b : Bool) → list_all p (filter t xs) ≡ true → list_all p (cond b (x ∷ filter t xs) (filter t xs)) ≡ true
    by true f = and_from (p x) (list_all p (filter t xs)) (first_so (p x) (list_all p xs) e) f
    by false f = f

-- those that are left pass the test
pub filter_passes : {X : Type 0} (t : X → Bool) (xs : List X) → list_all t (filter t xs) ≡ true
filter_passes t [] = refl
filter_passes t (x ∷ xs) = by (t x) refl (filter_passes t xs)
  where
    by : (b : Bool) → t x ≡ b → list_all t (filter t xs) ≡ true → list_all t (cond b (x ∷ filter t xs) (filter t xs)) ≡ true
    by true is f = and_from (t x) (list_all t (filter t xs)) is f
    by false is f = f

-- one test for another, element by element
pub filter_same : {X : Type 0} (p q : X → Bool) → ((x : X) → p x ≡ q x) → (xs : List X) → filter p xs ≡ filter q xs
filter_same p q f [] = refl
filter_same p q f (x ∷ xs) = ap (λ b. cond b (x ∷ filter p xs) (filter p xs)) (f x) ∙ ap (λ t. cond (q x) (x ∷ t) t) (filter_same p q f xs)

-- a test of what a list is mapped to
pub filter_in : {X Y : Type 0} (f : X → Y) (p : Y → Bool) (q : X → Bool) → ((x : X) → p (f x) ≡ q x) → (xs : List X) → filter p (map f xs) ≡ map f (filter q xs)
filter_in f p q h [] = refl
filter_in f p q h (x ∷ xs) = ap (λ b. cond b (f x ∷ filter p (map f xs)) (filter p (map f xs))) (h x) ∙ by (q x) (filter_in f p q h xs)
  where
    by : (b : Bool) → filter p (map f xs) ≡ map f (filter q xs) → cond b (f x ∷ filter p (map f xs)) (filter p (map f xs)) ≡ map f (cond b (x ∷ filter q xs) (filter q xs))
    by true e = ap (λ t. f x ∷ t) e
    by false e = e

-- a test that all of a list answer alike
pub filter_alike : {X Y : Type 0} (f : X → Y) (p : Y → Bool) (c : Bool) → ((x : X) → p (f x) ≡ c) → (xs : List X) → filter p (map f xs) ≡ cond c (map f xs) []
filter_alike f p true h [] = refl
filter_alike f p false h [] = refl
filter_alike f p true h (x ∷ xs) =
    ap (λ b. cond b (f x ∷ filter p (map f xs)) (filter p (map f xs))) (h x) ∙ ap (λ t. f x ∷ t) (filter_alike f p true h xs)
filter_alike f p false h (x ∷ xs) = ap (λ b. cond b (f x ∷ filter p (map f xs)) (filter p (map f xs))) (h x) ∙ filter_alike f p false h xs

-- the first of a list
abbrev pub first_of : {X : Type 0} → List X → Option X
first_of [] = None
first_of (x ∷ xs) = Some x

-- what is found is the first that passes
pub find_first : {X : Type 0} (p : X → Bool) (xs : List X) → find p xs ≡ first_of (filter p xs)
find_first p [] = refl
find_first p (x ∷ xs) = by (p x) (find_first p xs)
  where
    by : (b : Bool) → find p xs ≡ first_of (filter p xs) → cond b (Some x) (find p xs) ≡ first_of (cond b (x ∷ filter p xs) (filter p xs))
    by true e = refl
    by false e = e

-- a list around one of its elements
pub split_at : {X : Type 0} (xs : List X) (k : ℕ) (d : X) → k < length xs → xs ≡ take k xs ++ (get_or xs k d ∷ drop (suc k) xs)
split_at [] k d h = absurd (omega arith)
split_at (x ∷ xs) zero d h = refl
split_at (x ∷ xs) (suc k) d h = ap (λ t. x ∷ t) (split_at xs k d (omega arith))

-- a fact of each place from one on is one of all that stand there
pub all_from : {X : Type 0} (p : X → Bool) (xs : List X) (k : ℕ) → AllWithin (λ x. p x ≡ true) xs k (length xs) → list_all p (drop k xs) ≡ true
all_from p [] zero h = refl
all_from p [] (suc k) h = refl
all_from p (x ∷ xs) zero h = and_from (p x) (list_all p xs) (h 0 x (omega arith) (omega arith)) (all_from p xs zero (λ k d low high. h (suc k) d (omega arith) (omega arith)))
all_from p (x ∷ xs) (suc k) h = all_from p xs k (λ j d low high. h (suc j) d (omega arith) (omega arith))

-- the same of each place below one
pub all_below : {X : Type 0} (p : X → Bool) (xs : List X) (k : ℕ) → k ≤ length xs → AllWithin (λ x. p x ≡ true) xs 0 k → list_all p (take k xs) ≡ true
all_below p xs zero l h = refl
all_below p [] (suc k) l h = refl
all_below p (x ∷ xs) (suc k) l h =
    and_from (p x) (list_all p (take k xs)) (h 0 x (omega arith) (omega arith)) (all_below p xs k (omega arith) (λ j d low high. h (suc j) d (omega arith) (omega arith)))
