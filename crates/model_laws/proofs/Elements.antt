-- Elements of a list: what is found in it, what it has, and what all of them pass.
use Rattle.mat_path.proofs.Elements.{contains_cases, contains_first, contains_more}
use Rattle.std.proofs.lemmas.Bool.{and_parts}
use Rattle.std.proofs.Common.{◌≡◌, Bool, true, false, inl, inr, List, [], ◌∷◌, Some, cond, refl, subst, Contains, find, arith}
use Rattle.std.specs.List.{list_all}

-- what is found passes the test
pub found_passes : {A : Type 0} (q : A → Bool) (xs : List A) (y : A) → find q xs ≡ Some y → q y ≡ true
found_passes q [] y found = cc
found_passes {A = A} q (x ∷ xs) y found =
    elim (q x) as (λ b. q x ≡ b → cond b (Some x) (find q xs) ≡ Some y → q y ≡ true) [
      | true ↦ λ here is. let same : x ≡ y = cc in subst (λ (z : A). q z ≡ true) same here
      | false ↦ λ here is. found_passes q xs y is
    ] refl found

-- what is found passes each test that all pass
pub found_all : {A : Type 0} (p q : A → Bool) (xs : List A) (y : A) → list_all p xs ≡ true → find q xs ≡ Some y → p y ≡ true
found_all p q [] y all found = cc
found_all {A = A} p q (x ∷ xs) y all found =
    let parts = and_parts (p x) (list_all p xs) all in
    elim (q x) as (λ b. cond b (Some x) (find q xs) ≡ Some y → p y ≡ true) [
      | true ↦ λ is. let same : x ≡ y = cc in subst (λ (z : A). p z ≡ true) same parts.0
      | false ↦ λ is. found_all p q xs y parts.1 is
    ] found

-- what all elements pass each one passes
pub contains_all : {A : Type 0} (p : A → Bool) (xs : List A) (y : A) → list_all p xs ≡ true → Contains xs y → p y ≡ true
contains_all p [] y all (k, within, at) = absurd (omega arith)
contains_all {A = A} p (x ∷ xs) y all among =
    let parts = and_parts (p x) (list_all p xs) all in
    elim (contains_cases x xs y among) [
      | inl same ↦ subst (λ (z : A). p z ≡ true) same parts.0
      | inr more ↦ contains_all p xs y parts.1 more
    ]

-- what is found is in the list
pub found_contains : {A : Type 0} (q : A → Bool) (xs : List A) (y : A) → find q xs ≡ Some y → Contains xs y
found_contains q [] y found = absurd cc
found_contains {A = A} q (x ∷ xs) y found =
    elim (q x) as (λ b. cond b (Some x) (find q xs) ≡ Some y → Contains (x ∷ xs) y) [
      | true ↦ λ is. let same : x ≡ y = cc in subst (λ (z : A). Contains (x ∷ xs) z) same (contains_first x xs)
      | false ↦ λ is. contains_more x xs y (found_contains q xs y is)
    ] found
