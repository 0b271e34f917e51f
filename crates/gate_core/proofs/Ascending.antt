-- Ascending numbers: where one is put among them, and that they are no more than those among which they all are.
use Rattle.std.proofs.Common.{◌≡◌, ◌+◌, ◌≤◌, ℕ, suc, ◌==◌, nat_lt, Bool, true, false, not, ◌||◌, List, [], ◌∷◌, Some, None, cond, refl, sym, ap, subst, ◌∙◌, length, arith}
use Rattle.std.specs.Cmp.{IsEquivalence}
use Rattle.std.specs.List.{All, AllByRecursion, IsDistinct, insert, list_all, list_any, position, position_or_len, prefix_len}
use Rattle.std.specs.Option.{unwrap_or}
use Rattle.std.specs.Set.{is_member}
use Rattle.std.proofs.lemmas.Bool.{and_parts}
use Rattle.std.proofs.lemmas.Bool.Decides.{nat_tests}
use Rattle.std.proofs.lemmas.List.Elements.{All-contains}
use Rattle.std.proofs.lemmas.List.Sums.{prefix_len-le-length}
use Rattle.std.proofs.lemmas.Map.Made.{length-le_from_is_member}
use Rattle.mat_model.specs.Books.{are_ascending}
use Rattle.mat_model.specs.Gate.{is_command, put_number}
use Rattle.model_laws.proofs.BooksLists.{any_contains}

-- the first place that passes a test, or the length
pub position_is : {A : Type 0} (p : A → Bool) (xs : List A) → unwrap_or (position p xs) (length xs) ≡ position_or_len p xs
position_is p xs = at_most (position_or_len p xs) (length xs) (prefix_len-le-length (λ x. not (p x)) xs)
  where
    at_most : (n m : ℕ) → n ≤ m → unwrap_or (cond (nat_lt n m) (Some n) None) m ≡ n
    at_most n m le = grind (arith, nat_tests)

-- a number is put in front of the first one that is greater
pub put_number_is : (n : ℕ) (ns : List ℕ) → insert ns (position_or_len (nat_lt n) ns) n ≡ put_number n ns
put_number_is n [] = refl
put_number_is n (x ∷ xs) =
    elim (nat_lt n x) as
    (λ b. insert (x ∷ xs) (cond (not b) (1 + prefix_len (λ (k : ℕ). not (nat_lt n k)) xs) 0) n ≡ cond b (n ∷ x ∷ xs) (x ∷ put_number n xs)) [
      | true ↦ refl
      | false ↦
          let at = prefix_len (λ (k : ℕ). not (nat_lt n k)) xs in
          let e : 1 + at ≡ suc at = omega arith in
          rw e (ap (λ (rest : List ℕ). x ∷ rest) (put_number_is n xs))
    ]

-- ---- how many there are

same_numbers : IsEquivalence ◌==◌
same_numbers = record {
  refl = λ x. grind (arith, nat_tests);
  symm = λ x y. grind (arith, nat_tests);
  congr = λ x y z same. grind (arith, nat_tests, same);
}

all_others : (n : ℕ) (ns : List ℕ) → list_all (nat_lt n) ns ≡ true → AllByRecursion (λ (m : ℕ). (n == m) ≡ false) ns
all_others n [] all = tt
all_others n (x ∷ xs) all = let parts = and_parts (nat_lt n x) (list_all (nat_lt n) xs) all in (grind (arith, nat_tests, parts.0), all_others n xs parts.1)

ascending_distinct : (ns : List ℕ) → are_ascending ns ≡ true → IsDistinct ◌==◌ ns
unfolding IsDistinct
ascending_distinct [] up = tt
ascending_distinct (n ∷ ns) up = let parts = and_parts (list_all (nat_lt n) ns) (are_ascending ns) up in (all_others n ns parts.0, ascending_distinct ns parts.1)

-- a number is among some either way round
among : (n : ℕ) (ms : List ℕ) → list_any (is_command n) ms ≡ is_member ◌==◌ ms n
among n [] = refl
among n (m ∷ ms) = let turned : (m == n) ≡ (n == m) = grind (arith, nat_tests) in rw turned (ap (λ (b : Bool). (n == m) || b) (among n ms))

-- ascending numbers, each of them among some, are no more than those
pub no_more : (ns ms : List ℕ) → are_ascending ns ≡ true → All (λ (n : ℕ). list_any (is_command n) ms ≡ true) ns → length ns ≤ length ms
no_more ns ms up all =
    length-le_from_is_member same_numbers ns ms (ascending_distinct ns up)
    (λ q is.
    let one = any_contains (λ (n : ℕ). q == n) ns is in
    let same : one.0 ≡ q = grind (arith, nat_tests, one.2) in
    sym (among q ms) ∙ subst (λ (n : ℕ). list_any (is_command n) ms ≡ true) same (All-contains (λ (n : ℕ). list_any (is_command n) ms ≡ true) ns one.0 all one.1))
