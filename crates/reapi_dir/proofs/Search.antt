-- What a binary search by name finds in a list of nodes whose names ascend.
use Rattle.std.proofs.Common.{◌≡◌, ℕ, zero, suc, ◌<◌, Bool, true, false, ◌||◌, List, [], ◌∷◌, length, map, Result, Ok, Err, inl, inr, refl, sym, ap, ◌∙◌, arith, slice_index_or}
use Rattle.std.specs.Prelude.{is_ok}
use Rattle.std.specs.List.{list_all, list_any}
use Rattle.std.specs.List.Sorted.{IsBinarySearchResult, IsNonDecreasingBy, IsSearchInRange}
use Rattle.std.specs.Ordering.{is_eq, ordering_index, ordering_reverse}
use Rattle.std.specs.declared.cmp.Ordering.{Ordering}
use Rattle.std.specs.declared.cmp.Ordering.TheVariants.{Less, Equal, Greater}
use Rattle.std.specs.Cmp.{first_so, second_so}
use Rattle.std.specs.Cmp.Lexicographic.{texts_ties}
use Rattle.std.proofs.lemmas.Bool.{and_from, cases_lt}
use Rattle.std.proofs.lemmas.Cmp.{nat_list_cmp_total}
use Rattle.mat_path.proofs.Halves.{earlier, named_at}
use Rattle.mat_path.proofs.PathLemmas.{lt_less}
use Rattle.mat_path.specs.Names.{name_cmp, same_name}
use Rattle.reapi_dir.specs.Grammar.{ascend, is_before}

eq_back : (o : Ordering) → is_eq (ordering_reverse o) ≡ is_eq o
eq_back Less = refl
eq_back Equal = refl
eq_back Greater = refl

-- a name below another one is below all that this one is below
pub before_all : (a b : List ℕ) (names : List (List ℕ)) → is_before a b ≡ true → list_all (is_before b) names ≡ true → list_all (is_before a) names ≡ true
before_all a b [] h all = refl
before_all a b (name ∷ names) h all =
    let first = lt_less (name_cmp b name) (first_so (is_before b name) (list_all (is_before b) names) all) in
    let below : name_cmp a name ≡ Less = nat_list_cmp_total.trans a b name (lt_less (name_cmp a b) h) first in
    and_from (is_before a name) (list_all (is_before a) names) (rw below refl)
    (before_all a b names h (second_so (is_before b name) (list_all (is_before b) names) all))

-- whether a name is that of a node, by their order
pub same_by_order : (name other : List ℕ) → same_name name other ≡ is_eq (name_cmp other name)
same_by_order name other =
    texts_ties name other ∙ ap is_eq (nat_list_cmp_total.antisymm name other) ∙ eq_back (name_cmp other name)

module _ {T : Type 0} (name_of : T → List ℕ) (name : List ℕ) where
  against : T → Ordering
  against node = name_cmp (name_of node) name

  rising : (xs : List T) → ascend (map name_of xs) ≡ true → IsNonDecreasingBy (λ y. ordering_index (name_cmp (name_of y) name)) xs
  rising [] h i j d le inside = absurd (omega arith)
  rising (x ∷ xs) h zero zero d le inside = omega arith
  rising (x ∷ xs) h zero (suc j) d le inside =
      earlier (name_of x) (name_of (slice_index_or xs j d)) name
      (named_at name_of (is_before (name_of x)) xs j d (first_so (list_all (is_before (name_of x)) (map name_of xs)) (ascend (map name_of xs)) h) (omega arith))
  rising (x ∷ xs) h (suc i) zero d le inside = absurd (omega arith)
  rising (x ∷ xs) h (suc i) (suc j) d le inside =
      rising xs (second_so (list_all (is_before (name_of x)) (map name_of xs)) (ascend (map name_of xs)) h) i j d (omega arith) (omega arith)

  -- a name that stands at an index is found
  stands : (xs : List T) (k : ℕ) → k < length xs → ((d : T) → name_cmp (name_of (slice_index_or xs k d)) name ≡ Equal)
      → list_any (same_name name) (map name_of xs) ≡ true
  stands [] k inside h = absurd (omega arith)
  stands (x ∷ xs) zero inside h = rw (same_by_order name (name_of x), h x) refl
  stands (x ∷ xs) (suc k) inside h = or_right (same_name name (name_of x)) _ (stands xs k (omega arith) h)
    where
      or_right : (a b : Bool) → b ≡ true → (a || b) ≡ true
      or_right true b h = refl
      or_right false b h = h

  -- a name that stands at no index isn't found
  stands_nowhere : (xs : List T) → ((k : ℕ) (d : T) → k < length xs → is_eq (name_cmp (name_of (slice_index_or xs k d)) name) ≡ false)
      → list_any (same_name name) (map name_of xs) ≡ false
  stands_nowhere [] h = refl
  stands_nowhere (x ∷ xs) h =
      let first = h 0 x (omega arith) in
      rw (same_by_order name (name_of x), first) (stands_nowhere xs (λ k d inside. h (suc k) d (omega arith)))

  -- a binary search by name answers whether a node has that name, where the names ascend
  pub search_tells_name : (xs : List T) (r : Result ℕ ℕ) → ascend (map name_of xs) ≡ true → IsSearchInRange r (length xs)
      → IsBinarySearchResult (λ y. name_cmp (name_of y) name) xs r → is_ok r ≡ list_any (same_name name) (map name_of xs)
  search_tells_name xs (Ok k) h inside found = sym (stands xs k inside found)
  search_tells_name xs (Err k) h inside split =
      let parts = split (rising xs h) in
      sym (stands_nowhere xs (λ j d below.
      elim (cases_lt j k) [
        | inl left ↦ ap is_eq (parts.0 j d (omega arith) left)
        | inr right ↦ ap is_eq (parts.1 j d right below)
      ]))
