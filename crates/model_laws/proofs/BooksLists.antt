-- What is true of all elements of a list and of some of them, where the list is mapped, filtered or added to.
use Rattle.mat_path.proofs.Elements.{contains_cases, contains_first, contains_more}
use Rattle.std.proofs.Common.{◌≡◌, ◌+◌, Bool, true, false, List, [], ◌∷◌, Some, cond, inl, inr, refl, sym, ap, subst, ◌∙◌, map, find, Contains, count_by, arith}
use Rattle.std.specs.List.{All, list_any}
use Rattle.std.proofs.lemmas.Bool.{both_ways, or_parts}
use Rattle.std.proofs.lemmas.List.Elements.{All-contains_itself, All-map, All-weaker, All-cons, All-nil}
use Rattle.std.proofs.lemmas.List.Folds.{Any-from_list_any, list_any-from_Any}
use Rattle.std.proofs.lemmas.List.Sums.{sum_by-cons}

-- what is true of each element is true of all
pub all_each : {A : Type 0} (P : A → Type 0) (xs : List A) → ((x : A) → Contains xs x → P x) → All P xs
all_each {A = A} P xs each = All-weaker (Contains xs) P each xs (All-contains_itself xs)

-- what is true of all is true of all once each is mapped, where that keeps it
pub all-mapped : {A : Type 0} (P Q : A → Type 0) (f : A → A) → ((x : A) → P x → Q (f x)) → (xs : List A) → All P xs → All Q (map f xs)
all-mapped {A = A} P Q f keeps xs all = All-map Q f xs (All-weaker P (λ (x : A). Q (f x)) keeps xs all)

-- an element that passes a test, where some element does
pub any_contains : {A : Type 0} (p : A → Bool) (xs : List A) → list_any p xs ≡ true → (x : A) × Contains xs x × (p x ≡ true)
any_contains p xs any = let (k, x, within, at, passes) = Any-from_list_any p xs any in (x, (k, within, at), passes)

-- some element passes a test, where this one does
pub contains_any : {A : Type 0} (p : A → Bool) (xs : List A) (x : A) → Contains xs x → p x ≡ true → list_any p xs ≡ true
contains_any p xs x (k, within, at) passes = list_any-from_Any p xs (k, x, within, at, passes)

-- no element passes a test that not one of them passes
pub none_pass : {A : Type 0} (p : A → Bool) (xs : List A) → list_any p xs ≡ false → All (λ (x : A). p x ≡ false) xs
none_pass {A = A} p [] none = All-nil (λ (x : A). p x ≡ false)
none_pass {A = A} p (x ∷ xs) none =
    let parts = or_parts (p x) (list_any p xs) none in
    All-cons (λ (y : A). p y ≡ false) x xs parts.0 (none_pass p xs parts.1)

-- no element passes a test where none was counted that does
pub none_counted : {A : Type 0} (p : A → Bool) (xs : List A) → count_by p xs ≡ 0 → All (λ (x : A). p x ≡ false) xs
none_counted {A = A} p [] none = All-nil (λ (x : A). p x ≡ false)
none_counted {A = A} p (x ∷ xs) none =
    let parts : cond (p x) 1 0 + count_by p xs ≡ 0 = sym (sum_by-cons (λ (y : A). cond (p y) 1 0) x xs) ∙ none in
    All-cons (λ (y : A). p y ≡ false) x xs
    (elim (p x) as (λ b. cond b 1 0 + count_by p xs ≡ 0 → b ≡ false)
    [ true ↦ λ some. absurd (omega (arith, some)) | false ↦ λ other. refl ] parts)
    (none_counted p xs (omega (arith, parts)))

-- what passes a test is found by it, where nothing else passes
pub found_alone : {A : Type 0} (p : A → Bool) (xs : List A) (x : A) → Contains xs x → p x ≡ true → ((y : A) → Contains xs y → p y ≡ true → y ≡ x) →
    find p xs ≡ Some x
found_alone p [] x (k, within, at) passes same = absurd (omega arith)
found_alone {A = A} p (z ∷ xs) x among passes same =
    elim (p z) as (λ b. p z ≡ b → cond b (Some z) (find p xs) ≡ Some x) [
      | true ↦ λ here. ap (λ (y : A). Some y) (same z (contains_first z xs) here)
      | false ↦ λ off.
          elim (contains_cases z xs x among) [
            | inl one ↦ absurd (both_ways (p z) off (subst (λ (y : A). p y ≡ true) (sym one) passes))
            | inr more ↦ found_alone p xs x more passes (λ y also too. same y (contains_more z xs y also) too)
          ]
    ] refl
