-- Totals, fronts of a list, and the entries of one caller.
use Rattle.std.proofs.Common.{◌≡◌, ◌≢◌, ◌⊎◌, ℕ, suc, zero, ◌+◌, ◌<◌, ◌≤◌, Bool, true, false, cond, List, [], ◌∷◌, ◌++◌, length, set, sym, refl, ap, ◌∙◌, inl, inr, ⊎_elim, arith, append_assoc, length-append, eq-eqb, ne_eqb}
use mathlib.Core.Option.{some, some-injective, some-ne-none}
use mathlib.Core.List.{append-nil}
use lib.ListN.{get_elem?}
use Rattle.std.proofs.lemmas.List.Elements.{filter-append}
use Rattle.hall_lock.specs.declared.By.{By}
use Rattle.hall_lock.specs.Histories.{IsFront, is_of, of, NumberedFrom}
use Rattle.hall_lock.specs.Order.{Each, total}

module _ {A : Type 0} where
  -- the total where one element is replaced
  pub total_set : (f : A → ℕ) (xs : List A) (i : ℕ) (v w : A) → get_elem? xs i ≡ some v → total f (set xs i w) + f v ≡ total f xs + f w
  total_set f [] i v w at = absurd (some-ne-none v (sym at))
  total_set f (x ∷ xs) zero v w at = let e : f x ≡ f v = ap f (some-injective x v at) in omega arith
  total_set f (x ∷ xs) (suc i) v w at = let t = total_set f xs i v w at in omega arith

  pub total_push : (f : A → ℕ) (xs : List A) (y : A) → total f (xs ++ y ∷ []) ≡ total f xs + f y
  total_push f [] y = omega arith
  total_push f (x ∷ xs) y = let t = total_push f xs y in omega arith

  pub total_le : (f g : A → ℕ) (xs : List A) → ((i : ℕ) (v : A) → get_elem? xs i ≡ some v → f v ≤ g v) → total f xs ≤ total g xs
  total_le f g [] le = omega arith
  total_le f g (x ∷ xs) le = let t = total_le f g xs (λ i v at. le (suc i) v at) in let h : f x ≤ g x = le zero x refl in omega arith

  pub total_has : (f : A → ℕ) (xs : List A) (i : ℕ) (v : A) → get_elem? xs i ≡ some v → f v ≤ total f xs
  total_has f [] i v at = absurd (some-ne-none v (sym at))
  total_has f (x ∷ xs) zero v at = let e : f x ≡ f v = ap f (some-injective x v at) in omega arith
  total_has f (x ∷ xs) (suc i) v at = let t = total_has f xs i v at in omega arith

  pub total_two : (f : A → ℕ) (xs : List A) (i j : ℕ) (v w : A) → i ≢ j → get_elem? xs i ≡ some v → get_elem? xs j ≡ some w → f v + f w ≤ total f xs
  total_two f [] i j v w apart at there = absurd (some-ne-none v (sym at))
  total_two f (x ∷ xs) zero zero v w apart at there = absurd (apart refl)
  total_two f (x ∷ xs) zero (suc j) v w apart at there = let e : f x ≡ f v = ap f (some-injective x v at) in let t = total_has f xs j w there in omega arith
  total_two f (x ∷ xs) (suc i) zero v w apart at there = let e : f x ≡ f w = ap f (some-injective x w there) in let t = total_has f xs i v at in omega arith
  total_two f (x ∷ xs) (suc i) (suc j) v w apart at there = let t = total_two f xs i j v w (λ e. apart (ap suc e)) at there in omega arith

  pub at_push : (xs : List A) (y : A) (j : ℕ) (v : A) → get_elem? (xs ++ y ∷ []) j ≡ some v → (get_elem? xs j ≡ some v) ⊎ ((j ≡ length xs) × (y ≡ v))
  at_push [] y zero v at = inr (refl, some-injective y v at)
  at_push [] y (suc j) v at = absurd (some-ne-none v (sym at))
  at_push (x ∷ xs) y zero v at = inl at
  at_push (x ∷ xs) y (suc j) v at = ⊎_elim inl (λ t. inr (ap suc t.0, t.1)) (at_push xs y j v at)

  pub at_within : (xs : List A) (i : ℕ) (v : A) → get_elem? xs i ≡ some v → i < length xs
  at_within [] i v at = absurd (some-ne-none v (sym at))
  at_within (x ∷ xs) zero v at = omega arith
  at_within (x ∷ xs) (suc i) v at = let t = at_within xs i v at in omega arith

  pub each_map : (P Q : A → Type 0) → ((x : A) → P x → Q x) → (xs : List A) → Each P xs → Each Q xs
  each_map P Q f [] e = tt
  each_map P Q f (x ∷ xs) e = (f x e.0, each_map P Q f xs e.1)

  pub each_push : (P : A → Type 0) (xs : List A) (y : A) → Each P xs → P y → Each P (xs ++ y ∷ [])
  each_push P [] y e h = (h, tt)
  each_push P (x ∷ xs) y e h = (e.0, each_push P xs y e.1 h)

  pub front_refl : (xs : List A) → IsFront xs xs
  front_refl xs = ([], sym (append-nil xs))

  pub front_push : (xs : List A) (y : A) → IsFront xs (xs ++ y ∷ [])
  front_push xs y = (y ∷ [], refl)

  pub front_trans : (xs ys zs : List A) → IsFront xs ys → IsFront ys zs → IsFront xs zs
  front_trans xs ys zs a b = (a.0 ++ b.0, b.1 ∙ (ap (λ l. l ++ b.0) a.1 ∙ append_assoc xs a.0 b.0))

  pub front_length : (xs ys : List A) → IsFront xs ys → length xs ≤ length ys
  front_length xs ys a = let e : length ys ≡ length xs + length a.0 = ap length a.1 ∙ length-append xs a.0 in omega arith

module _ {E : Type 0} (by : E → By) where
  -- an entry of the caller comes behind its others
  pub of_own : (c : ℕ) (log : List E) (e : E) → (by e).caller ≡ c → of by c (log ++ e ∷ []) ≡ of by c log ++ e ∷ []
  of_own c log e is = filter-append (is_of by c) log (e ∷ []) ∙ ap (λ b. of by c log ++ cond b (e ∷ []) []) (eq-eqb (by e).caller c is)

  -- an entry of another caller is none of it
  pub of_other : (c : ℕ) (log : List E) (e : E) → (by e).caller ≢ c → of by c (log ++ e ∷ []) ≡ of by c log
  of_other c log e is = filter-append (is_of by c) log (e ∷ []) ∙ (ap (λ b. of by c log ++ cond b (e ∷ []) []) (ne_eqb (by e).caller c is) ∙ append-nil (of by c log))

  count_within : (b : Bool) (x : E) (xs : List E) (n : ℕ) → length xs ≤ n → length (cond b (x ∷ xs) xs) ≤ n + 1
  count_within true x xs n h = omega arith
  count_within false x xs n h = omega arith

  pub of_length : (c : ℕ) (log : List E) → length (of by c log) ≤ length log
  of_length c [] = omega arith
  of_length c (x ∷ log) = let h = count_within (is_of by c x) x (of by c log) (length log) (of_length c log) in omega arith

  pub numbered_push : (k : ℕ) (log : List E) (e : E) → NumberedFrom by k log → (by e).number ≡ k + length log → NumberedFrom by k (log ++ e ∷ [])
  numbered_push k [] e n is = (omega arith, tt)
  numbered_push k (x ∷ log) e n is = (n.0, numbered_push (k + 1) log e n.1 (omega arith))
