-- Facts about rows that the code's tests come to.
use Rattle.std.proofs.Common.{◌≡◌, ℕ, ◌+◌, Bool, true, false, not, ◌||◌, List, [], ◌∷◌, Option, Some, None, cond, refl, ap, ◌∙◌, insert, length, arith, suc, unwrap_or, position, nat_lt, ◌≤◌}
use Rattle.std.proofs.lemmas.Bool.Decides.{nat_tests}
use Rattle.std.proofs.lemmas.List.Sums.{prefix_len-le-length}
use Rattle.std.specs.List.{list_any, find, position_or_len, prefix_len}
use Rattle.std.specs.Option.{option_map, is_some}
use Rattle.mat_tree.specs.declared.flat.Flat.{Flat}
use Rattle.mat_tree.specs.Trees.{is_at, has_node, kind_of, what_at, what_of}
use Rattle.mat_model.specs.declared.book.Row.{Row}
use Rattle.mat_model.specs.Rows.{comes_after, comes_before, put_row}

-- a map leaves whether there is a value
pub is_some-map : {A B : Type 0} (f : A → B) (o : Option A) → is_some (option_map f o) ≡ is_some o
is_some-map f None = refl
is_some-map f (Some x) = refl

-- an element passes a test exactly where one is found
pub is_some-find : {A : Type 0} (p : A → Bool) (xs : List A) → is_some (find p xs) ≡ list_any p xs
is_some-find p [] = refl
is_some-find p (x ∷ xs) =
    elim (p x) as (λ b. is_some (cond b (Some x) (find p xs)) ≡ (b || list_any p xs)) [ true ↦ refl | false ↦ is_some-find p xs ]

-- a tree has a node at a rel exactly where it has something there
pub has_node_is : (tree : List Flat) (rel : List (List ℕ)) → is_some (option_map kind_of (what_at tree rel)) ≡ has_node tree rel
has_node_is tree rel =
    is_some-map kind_of (what_at tree rel) ∙ is_some-map what_of (find (is_at rel) tree) ∙ is_some-find (is_at rel) tree

-- a row is put in front of the first one that comes after it
pub put_row_is : (new : Row) (rows : List Row) → insert rows (position_or_len (comes_after new.path) rows) new ≡ put_row new rows
put_row_is new [] = refl
put_row_is new (row ∷ rows) =
    elim (comes_before new.path row.path) as
    (λ b. insert (row ∷ rows) (cond (not b) (1 + prefix_len (λ r. not (comes_after new.path r)) rows) 0) new
    ≡ cond b (new ∷ row ∷ rows) (row ∷ put_row new rows)) [
      | true ↦ refl
      | false ↦
          let at = prefix_len (λ (r : Row). not (comes_after new.path r)) rows in
          let e : 1 + at ≡ suc at = omega arith in
          rw e (ap (λ (xs : List Row). row ∷ xs) (put_row_is new rows))
    ]

-- the first place that passes a test, or the length
pub position_is : {A : Type 0} (p : A → Bool) (xs : List A) → unwrap_or (position p xs) (length xs) ≡ position_or_len p xs
position_is p xs = at_most (position_or_len p xs) (length xs) (prefix_len-le-length (λ x. not (p x)) xs)
  where
    at_most : (n m : ℕ) → n ≤ m → unwrap_or (cond (nat_lt n m) (Some n) None) m ≡ n
    at_most n m le = grind (arith, nat_tests)
