-- Tests of lists: what a list that passes or fails says of its parts.
use Rattle.mat_path.proofs.Bools.{false_by}
use Rattle.std.proofs.lemmas.Bool.{or_parts}
use Rattle.std.proofs.Common.{◌≡◌, ◌≤◌, ℕ, length, subst, sym, Bool, true, false, not, List, [], ◌∷◌, None, refl, ap, ◌∙◌}
use Rattle.std.proofs.lemmas.List.Sums.{count_by-le-length, length-filter}
use Rattle.std.specs.List.{list_any, find, filter}

-- what fails a test isn't found by it
pub filter_none : {A : Type 0} (p : A → Bool) (xs : List A) → list_any p xs ≡ false → filter p xs ≡ []
filter_none p [] h = refl
filter_none p (x ∷ xs) h =
    let parts = or_parts (p x) (list_any p xs) h in rw parts.0 (filter_none p xs parts.1)

-- what fails a test is kept by its opposite
pub filter_opposite : {A : Type 0} (p q : A → Bool) → ((x : A) → q x ≡ not (p x)) → (xs : List A) → list_any p xs ≡ false → filter q xs ≡ xs
filter_opposite {A = A} p q opposite [] h = refl
filter_opposite {A = A} p q opposite (x ∷ xs) h =
    let parts = or_parts (p x) (list_any p xs) h in
    let kept : q x ≡ true = opposite x ∙ ap not parts.0 in
    rw kept (ap (λ (ys : List A). x ∷ ys) (filter_opposite p q opposite xs parts.1))

-- a test that implies one that all fail finds nothing
pub find_none : {A : Type 0} (p q : A → Bool) → ((x : A) → p x ≡ true → q x ≡ true) → (xs : List A) → list_any q xs ≡ false → find p xs ≡ None
find_none p q implies [] h = refl
find_none p q implies (x ∷ xs) h =
    let parts = or_parts (q x) (list_any q xs) h in
    let fails : p x ≡ false = false_by (p x) (q x) (implies x) parts.0 in
    rw fails (find_none p q implies xs parts.1)

-- a list is no longer where it is filtered
pub filter_le : {A : Type 0} (p : A → Bool) (xs : List A) → length (filter p xs) ≤ length xs
filter_le p xs = subst (λ (n : ℕ). n ≤ length xs) (sym (length-filter p xs)) (count_by-le-length p xs)
