-- The first entry at a prefix of a path is the one at the shortest.
use Rattle.mat_path.proofs.Elements.{contains_cases, contains_first, contains_more, each_fails}
use Rattle.mat_path.proofs.PathLemmas.{name_cmp-refl}
use Rattle.mat_path.proofs.SameNames.{same_name-eq}
use Rattle.std.proofs.Common.{◌≡◌, ◌≤◌, inl, inr, ℕ, Bool, true, false, cond, List, [], ◌∷◌, length, Contains, refl, ◌∙◌, sym, ap, subst, arith}
use Rattle.std.proofs.lemmas.Bool.{both_ways}
use Rattle.std.specs.Cmp.{first_so, second_so}
use Rattle.std.specs.List.{find, list_all}
use Rattle.std.specs.Ordering.{is_lt, ordering_then}
use Rattle.std.specs.declared.option.Option.{Option}
use Rattle.std.specs.declared.option.Option.TheVariants.{Some, None}
use Rattle.mat_path.specs.Names.{is_prefix, name_cmp, path_cmp, same_name}
use Rattle.path_trie.specs.declared.entry.Entry.{Entry}
use Rattle.path_trie.specs.Entries.{ascends, is_above, is_less, IsShortest}

-- of two prefixes of one path the lesser has no more names
shorter : (p q r : List (List ℕ)) → is_prefix p r ≡ true → is_prefix q r ≡ true → is_lt (path_cmp p q) ≡ true → length p ≤ length q
shorter [] q r f g h = omega arith
shorter (a ∷ p) [] r f g h = cc
shorter (a ∷ p) (b ∷ q) [] f g h = cc
shorter (a ∷ p) (b ∷ q) (c ∷ r) f g h =
    let one : a ≡ c = same_name-eq a c (first_so (same_name a c) (is_prefix p r) f) in
    let other : b ≡ c = same_name-eq b c (first_so (same_name b c) (is_prefix q r) g) in
    let tied = ap (λ n. name_cmp a n) (other ∙ sym one) ∙ name_cmp-refl a in
    let less : is_lt (path_cmp p q) ≡ true = ap (λ o. is_lt (ordering_then o (path_cmp p q))) (sym tied) ∙ h in
    let e = shorter p q r (second_so (same_name a c) (is_prefix p r) f) (second_so (same_name b c) (is_prefix q r) g) less in
    omega (arith, e)

-- a test that all of a list pass is passed by each of its elements
each_passes : {X : Type 0} (p : X → Bool) (xs : List X) (x : X) → list_all p xs ≡ true → Contains xs x → p x ≡ true
each_passes p [] x h (k, within, at) = absurd (omega arith)
each_passes p (y ∷ ys) x h among =
    elim (contains_cases y ys x among) [
      | inl same ↦ ap p (sym same) ∙ first_so (p y) (list_all p ys) h
      | inr later ↦ each_passes p ys x (second_so (p y) (list_all p ys) h) later
    ]

-- with one entry more in front, which isn't at a prefix
with_other : {V : Type 0} (path : List (List ℕ)) (x : Entry V) (xs : List (Entry V)) (o : Option (Entry V)) → is_above path x ≡ false → IsShortest path xs o → IsShortest path (x ∷ xs) o
with_other path x xs None out h = λ e among.
    elim (contains_cases x xs e among) [
      | inl same ↦ ap (is_above path) (sym same) ∙ out
      | inr later ↦ h e later
    ]
with_other path x xs (Some found) out h = (
  contains_more x xs found h.0,
  h.1,
  λ e among above.
      elim (contains_cases x xs e among) [
        | inl same ↦ absurd (both_ways (is_above path x) out (ap (is_above path) same ∙ above))
        | inr later ↦ h.2 e later above
      ],
)

pub shortest : {V : Type 0} (path : List (List ℕ)) (entries : List (Entry V)) → ascends entries ≡ true → IsShortest path entries (find (is_above path) entries)
shortest path [] h = λ e among. each_fails (is_above path) [] e refl among
shortest {V} path (x ∷ xs) h =
    by (is_above path x) refl (first_so (list_all (is_less x) xs) (ascends xs) h) (shortest path xs (second_so (list_all (is_less x) xs) (ascends xs) h))
  where
    by : (b : Bool) → is_above path x ≡ b → list_all (is_less x) xs ≡ true → IsShortest path xs (find (is_above path) xs)
        → IsShortest path (x ∷ xs) (cond (is_above path x) (Some x) (find (is_above path) xs))
    by true is later rest =
        subst (λ (b : Bool). IsShortest path (x ∷ xs) (cond b (Some x) (find (is_above path) xs))) (sym is) (
          contains_first x xs,
          is,
          λ e among above.
              elim (contains_cases x xs e among) [
                | inl same ↦ let k = ap (λ (t : Entry V). length t.path) same in omega (arith, k)
                | inr more ↦ shorter x.path e.path path is above (each_passes (is_less x) xs e later more)
              ],
        )
    by false is later rest =
        subst (λ (b : Bool). IsShortest path (x ∷ xs) (cond b (Some x) (find (is_above path) xs))) (sym is) (with_other path x xs (find (is_above path) xs) is rest)
