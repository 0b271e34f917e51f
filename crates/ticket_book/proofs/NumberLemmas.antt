-- Numbers in strict order, where one comes and where one goes.
use Rattle.std.proofs.Common.{◌≡◌, ℕ, suc, nat_lt, nat_le, ◌<◌, ◌==◌, Bool, true, false, not, ◌&&◌, cond, List, [], ◌∷◌, ◌++◌, Less, Equal, Greater, refl, ◌∙◌, sym, ap, subst, is_eq, arith, Option, Some}
use Rattle.std.proofs.lemmas.Bool.{and_parts, eqb-false, eqb-true, eq-eqb, le-leb, leb-false, leb-true, lt-leb, ne_eqb}
use Rattle.std.proofs.lemmas.Map.Keys.{sorted_head, sorted_tail}
use Rattle.std.specs.BTreeMap.{is_at}
use Rattle.std.specs.BTreeMap.Range.{range_contains}
use Rattle.std.specs.BTreeSet.{insert_key}
use Rattle.std.specs.List.{AllByRecursion, filter, find, list_all}
use Rattle.std.specs.List.Sorted.{IsStrictlySortedBy}
use Rattle.std.specs.Ordering.{is_le, match_ordering, nat_cmp}
use Rattle.std.specs.Set.{remove_key}
use Rattle.std.specs.declared.ops.Bound.TheVariants.{Included, Unbounded}
use Rattle.path_trie.proofs.Lists.{find_first, first_of}
use Rattle.ticket_book.specs.ByPath.{is_other}

-- whether a number is lower than another
abbrev pub is_lower : ℕ → ℕ → Bool
is_lower n other = nat_lt other n

comes_last : (n x : ℕ) → nat_lt x n ≡ true → nat_cmp n x ≡ Greater
comes_last n x less = let so = leb-true (suc x) n less in cmp_greater n x (omega (arith, so))
  where
    cmp_greater : (a b : ℕ) → b < a → nat_cmp a b ≡ Greater
    cmp_greater a b l = ap (λ t. cond t Less (cond (a == b) Equal Greater)) (lt-leb (suc a) b (omega (arith, l))) ∙ ap (λ t. cond t Equal Greater) (ne_eqb a b (λ same. absurd (omega (arith, l, same))))

-- a number behind the others
pub put_last : (n : ℕ) (ns : List ℕ) → list_all (is_lower n) ns ≡ true → insert_key nat_cmp ns n ≡ ns ++ n ∷ []
put_last n [] all = refl
put_last n (x ∷ xs) all =
    let parts = and_parts (nat_lt x n) (list_all (is_lower n) xs) all in
    ap (λ o. match_ordering o (n ∷ x ∷ xs) (x ∷ xs) (x ∷ insert_key nat_cmp xs n)) (comes_last n x parts.0) ∙ ap (λ ms. x ∷ ms) (put_last n xs parts.1)

same_order : (n x : ℕ) → is_at (nat_cmp n) x ≡ (x == n)
same_order n x = by (nat_lt n x) refl (n == x) refl
  where
    by : (a : Bool) → nat_lt n x ≡ a → (b : Bool) → (n == x) ≡ b → is_eq (cond a Less (cond b Equal Greater)) ≡ (x == n)
    by true less b e = let so = leb-true (suc n) x less in sym (ne_eqb x n (λ same. absurd (omega (arith, so, same))))
    by false more true e = sym (eq-eqb x n (sym (eqb-true n x e)))
    by false more false e = sym (ne_eqb x n (λ same. let lost : true ≡ false = sym (eq-eqb n x (sym same)) ∙ e in cc))

none_higher : (n : ℕ) (ns : List ℕ) → AllByRecursion (λ y. nat_cmp n y ≡ Less) ns → filter (is_other n) ns ≡ ns
none_higher n [] all = refl
none_higher n (x ∷ xs) all = ap (λ b. cond (not b) (x ∷ filter (is_other n) xs) (filter (is_other n) xs)) (sym (same_order n x) ∙ ap is_eq all.0) ∙ ap (λ ms. x ∷ ms) (none_higher n xs all.1)

-- a number less
pub one_gone : (n : ℕ) (ns : List ℕ) → IsStrictlySortedBy nat_cmp ns → remove_key (is_at (nat_cmp n)) ns ≡ filter (is_other n) ns
one_gone n [] order = refl
one_gone n (x ∷ xs) order = ap (λ b. cond b xs (x ∷ remove_key (is_at (nat_cmp n)) xs)) (same_order n x) ∙ by (x == n) refl (one_gone n xs (sorted_tail nat_cmp x xs order))
  where
    by : (b : Bool) → (x == n) ≡ b → remove_key (is_at (nat_cmp n)) xs ≡ filter (is_other n) xs
        → cond b xs (x ∷ remove_key (is_at (nat_cmp n)) xs) ≡ cond (not b) (x ∷ filter (is_other n) xs) (filter (is_other n) xs)
    by true same more = sym (none_higher n xs (subst (λ m. AllByRecursion (λ y. nat_cmp m y ≡ Less) xs) (eqb-true x n same) (sorted_head nat_cmp x xs order)))
    by false other more = ap (λ ms. x ∷ ms) more

-- lower numbers are others
pub none_other : (n : ℕ) (ns : List ℕ) → list_all (is_lower n) ns ≡ true → filter (is_other n) ns ≡ ns
none_other n [] all = refl
none_other n (x ∷ xs) all =
    let parts = and_parts (is_lower n x) (list_all (is_lower n) xs) all in
    let less = leb-true (suc x) n parts.0 in
    ap (λ b. cond (not b) (x ∷ filter (is_other n) xs) (filter (is_other n) xs)) (ne_eqb x n (λ same. absurd (omega (arith, less, same))))
    ∙ ap (λ ms. x ∷ ms) (none_other n xs parts.1)

-- ---- the first from one on

-- tests that answer alike find the same
pub find_alike : {A : Type 0} (p q : A → Bool) → ((x : A) → p x ≡ q x) → (xs : List A) → find p xs ≡ find q xs
find_alike p q same [] = refl
find_alike {A} p q same (x ∷ xs) =
    ap (λ b. cond b (Some x) (find p xs)) (same x) ∙ ap (λ (o : Option A). cond (q x) (Some x) o) (find_alike p q same xs)

-- a number is in the range from one on where it isn't below it
in_range : (n m : ℕ) → range_contains nat_cmp (Included n) Unbounded m ≡ nat_le n m
in_range n m = by (nat_lt n m) refl (n == m) refl
  where
    past : (a b : ℕ) → b < suc a → (a ≡ b → ⊥) → b < a
    past a b least other = omega (arith, least, other)

    by : (a : Bool) → nat_lt n m ≡ a → (b : Bool) → (n == m) ≡ b → (is_le (cond a Less (cond b Equal Greater)) && true) ≡ nat_le n m
    by true less b e = let so = leb-true (suc n) m less in sym (le-leb n m (omega (arith, so)))
    by false more true e = let same = eqb-true n m e in sym (le-leb n m (omega (arith, same)))
    by false more false e = sym (lt-leb n m (past n m (leb-false (suc n) m more) (eqb-false n m e)))

-- the first number in that range
pub next_found : (n : ℕ) (ns range : List ℕ) → range ≡ filter (range_contains nat_cmp (Included n) Unbounded) ns → first_of range ≡ find (nat_le n) ns
next_found n ns range is =
    ap first_of is
    ∙ sym (find_first (range_contains nat_cmp (Included n) Unbounded) ns)
    ∙ find_alike (range_contains nat_cmp (Included n) Unbounded) (nat_le n) (in_range n) ns
