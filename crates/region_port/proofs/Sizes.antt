-- How many entries stand once one was put, or a part was cut out or hung in.
use Rattle.mat_path.proofs.SameNames.{same_names-eq}
use Rattle.mat_path.proofs.PathLemmas.{path_cmp-refl}
use Rattle.mat_path.specs.Names.{path_cmp}
use Rattle.std.proofs.Common.{◌≡◌, ℕ, ◌+◌, ◌≤◌, Bool, true, false, not, cond, List, [], ◌∷◌, ◌++◌, length, length-append, refl, ap, sym, ◌∙◌, arith}
use Rattle.std.specs.Prelude.{Option, Some, None}
use Rattle.std.specs.Cmp.{first_so}
use Rattle.std.specs.List.{filter, find}
use Rattle.std.specs.Option.{option_map}
use Rattle.std.specs.Ordering.{is_lt}
use Rattle.path_trie.specs.declared.entry.Entry.{Entry}
use Rattle.path_trie.specs.Entries.{cut_at, is_at, is_before, is_behind, is_past, is_under, put, spliced, value_at, value_of}
use Rattle.path_trie.proofs.Onwards.{not_both}
use Rattle.path_trie.proofs.Splices.{filter_few}

-- of two tests that never both pass, the lists that are left are together no longer
pub two_filters : {X : Type 0} (p q : X → Bool) → ((x : X) → q x ≡ true → p x ≡ false) → (xs : List X) → length (filter p xs) + length (filter q xs) ≤ length xs
two_filters p q never [] = omega arith
two_filters {X} p q never (x ∷ xs) = by (p x) (q x) refl refl (two_filters p q never xs)
  where
    by : (a b : Bool) → p x ≡ a → q x ≡ b → length (filter p xs) + length (filter q xs) ≤ length xs
        → length (cond a (x ∷ filter p xs) (filter p xs)) + length (cond b (x ∷ filter q xs) (filter q xs)) ≤ length (x ∷ xs)
    by true true is so more = let lost : true ≡ false = sym is ∙ never x so in cc
    by true false is so more = omega (arith, more)
    by false true is so more = omega (arith, more)
    by false false is so more = omega (arith, more)

-- and one shorter, where neither passes of something that is found
pub two_filters_less : {X : Type 0} (r p q : X → Bool) → ((x : X) → q x ≡ true → p x ≡ false) → ((x : X) → r x ≡ true → (p x ≡ false) × (q x ≡ false))
    → (xs : List X) (y : X) → find r xs ≡ Some y → length (filter p xs) + length (filter q xs) + 1 ≤ length xs
two_filters_less r p q never off [] y e = cc
two_filters_less {X} r p q never off (x ∷ xs) y e = by (r x) refl (p x) (q x) refl refl e (two_filters_less r p q never off xs y)
  where
    by : (c : Bool) → r x ≡ c → (a b : Bool) → p x ≡ a → q x ≡ b → cond c (Some x) (find r xs) ≡ Some y → (find r xs ≡ Some y → length (filter p xs) + length (filter q xs) + 1 ≤ length xs)
        → length (cond a (x ∷ filter p xs) (filter p xs)) + length (cond b (x ∷ filter q xs) (filter q xs)) + 1 ≤ length (x ∷ xs)
    by true here false false is so e more = let few = two_filters p q never xs in omega (arith, few)
    by true here true b is so e more = let lost : true ≡ false = sym is ∙ (off x here).0 in cc
    by true here false true is so e more = let lost : true ≡ false = sym so ∙ (off x here).1 in cc
    by false here true true is so e more = let lost : true ≡ false = sym is ∙ never x so in cc
    by false here true false is so e more = let few : length (filter p xs) + length (filter q xs) + 1 ≤ length xs = more e in omega (arith, few)
    by false here false true is so e more = let few : length (filter p xs) + length (filter q xs) + 1 ≤ length xs = more e in omega (arith, few)
    by false here false false is so e more = let few : length (filter p xs) + length (filter q xs) + 1 ≤ length xs = more e in omega (arith, few)

never_before : {V : Type 0} (path : List (List ℕ)) (x : Entry V) → is_behind path x ≡ true → is_before path x ≡ false
never_before path x behind = not_both path x.path behind

size_around : {X : Type 0} (xs ys : List X) (x : X) → length (xs ++ x ∷ ys) ≡ length xs + length ys + 1
size_around xs ys x = let e = length-append xs (x ∷ ys) in omega (arith, e)

-- a put makes one entry more at most
pub size_put : {V : Type 0} (path : List (List ℕ)) (v : V) (xs : List (Entry V)) → length (put path v xs) ≤ length xs + 1
size_put path v xs =
    let new = size_around (filter (is_before path) xs) (filter (is_behind path) xs) (record { path = path; value = v }) in
    let few = two_filters (is_before path) (is_behind path) (never_before path) xs in
    omega (arith, new, few)

-- and none where one stands at the path
pub size_put_there : {V : Type 0} (path : List (List ℕ)) (v : V) (xs : List (Entry V)) (w : V) → Some w ≡ value_at path xs → length (put path v xs) ≤ length xs
size_put_there {V} path v xs w e = by (find (is_at path) xs) refl e
  where
    off : (x : Entry V) → is_at path x ≡ true → (is_before path x ≡ false) × (is_behind path x ≡ false)
    off x at =
        let same : path ≡ x.path = same_names-eq path x.path at in (
          ap (λ p. is_lt (path_cmp p path)) (sym same) ∙ ap is_lt (path_cmp-refl path),
          ap (λ p. is_lt (path_cmp path p)) (sym same) ∙ ap is_lt (path_cmp-refl path),
        )

    by : (o : Option (Entry V)) → find (is_at path) xs ≡ o → Some w ≡ option_map value_of o → length (put path v xs) ≤ length xs
    by None f e = cc
    by (Some x) f e =
        let new = size_around (filter (is_before path) xs) (filter (is_behind path) xs) (record { path = path; value = v }) in
        let few = two_filters_less (is_at path) (is_before path) (is_behind path) (never_before path) off xs x f in
        omega (arith, new, few)

never_past : {V : Type 0} (path : List (List ℕ)) (x : Entry V) → is_past path x ≡ true → is_before path x ≡ false
never_past path x past = not_both path x.path (first_so (is_behind path x) (not (is_under path x)) past)

-- a part that is cut out leaves one entry more at most
pub size_cut : {V : Type 0} (path : List (List ℕ)) (mark : V) (xs : List (Entry V)) → length (cut_at path mark xs) ≤ length xs + 1
size_cut path mark xs =
    let new = size_around (filter (is_before path) xs) (filter (is_past path) xs) (record { path = path; value = mark }) in
    let few = two_filters (is_before path) (is_past path) (never_past path) xs in
    omega (arith, new, few)

-- a part that is hung in makes no more entries than it has
pub size_spliced : {V : Type 0} (path : List (List ℕ)) (others xs : List (Entry V)) → length (spliced path others xs) ≤ length xs + length others
size_spliced path others xs =
    let all = length-append (filter (is_before path) xs) (filter (is_under path) others ++ filter (is_past path) xs) in
    let rest = length-append (filter (is_under path) others) (filter (is_past path) xs) in
    let few = two_filters (is_before path) (is_past path) (never_past path) xs in
    let inner = filter_few (is_under path) others in
    omega (arith, all, rest, few, inner)
