-- Names that come one by one, each of them new, and names in order.
use Rattle.std.specs.Cmp.{first_so, second_so}
use Rattle.std.proofs.lemmas.Bool.{and_from}
use Rattle.std.proofs.Common.{◌≡◌, ℕ, Bool, true, ◌&&◌, not, List, [], ◌∷◌, Option, Some, None, refl}
use Rattle.std.specs.List.{list_all, list_any}
use Rattle.mat_path.specs.Names.{same_name}
use Rattle.reapi_dir.specs.Grammar.{are_apart, ascend, is_before}
use Rattle.reapi_dir.specs.Reading.{follows, is_new}
use Rattle.reapi_dir.proofs.Search.{before_all}

-- whether each name is new behind the one before it and the earlier lists
abbrev pub all_new : List (List ℕ) → Option (List ℕ) → List (List ℕ) → Bool
all_new earlier last [] = true
all_new earlier last (name ∷ names) = is_new last earlier name && all_new earlier (Some name) names

-- whether all names are greater than the last one before them
abbrev pub behind_all : Option (List ℕ) → List (List ℕ) → Bool
behind_all None names = true
behind_all (Some last) names = list_all (is_before last) names

-- names that are new one by one are greater than the last before them, ascend, and stand in no earlier list
pub new_ascend : (earlier : List (List ℕ)) (last : Option (List ℕ)) (names : List (List ℕ)) → all_new earlier last names ≡ true
    → (behind_all last names ≡ true) × (ascend names ≡ true) × (are_apart earlier names ≡ true)
new_ascend earlier None [] h = (refl, refl, refl)
new_ascend earlier (Some last) [] h = (refl, refl, refl)
new_ascend earlier last (name ∷ names) h =
    let new = first_so (is_new last earlier name) (all_new earlier (Some name) names) h in
    let rest = new_ascend earlier (Some name) names (second_so (is_new last earlier name) (all_new earlier (Some name) names) h) in
    let after = first_so (follows last name) (not (list_any (same_name name) earlier)) new in
    let apart = second_so (follows last name) (not (list_any (same_name name) earlier)) new in (
      behind last after rest.0,
      and_from (list_all (is_before name) names) (ascend names) rest.0 rest.1,
      and_from (not (list_any (same_name name) earlier)) (are_apart earlier names) apart rest.2,
    )
  where
    behind : (last : Option (List ℕ)) → follows last name ≡ true → list_all (is_before name) names ≡ true → behind_all last (name ∷ names) ≡ true
    behind None after all = refl
    behind (Some last) after all = and_from (is_before last name) (list_all (is_before last) names) after (before_all last name names after all)

-- names that ascend, are greater than the last before them and stand in no earlier list are new one by one
pub ascend_new : (earlier : List (List ℕ)) (last : Option (List ℕ)) (names : List (List ℕ)) → behind_all last names ≡ true → ascend names ≡ true
    → are_apart earlier names ≡ true → all_new earlier last names ≡ true
ascend_new earlier last [] behind h apart = refl
ascend_new earlier last (name ∷ names) behind h apart =
    let all = first_so (list_all (is_before name) names) (ascend names) h in
    let rest = second_so (list_all (is_before name) names) (ascend names) h in
    let first = first_so (not (list_any (same_name name) earlier)) (are_apart earlier names) apart in
    let others = second_so (not (list_any (same_name name) earlier)) (are_apart earlier names) apart in
    and_from (is_new last earlier name) (all_new earlier (Some name) names)
    (and_from (follows last name) (not (list_any (same_name name) earlier)) (after last behind) first)
    (ascend_new earlier (Some name) names all rest others)
  where
    after : (last : Option (List ℕ)) → behind_all last (name ∷ names) ≡ true → follows last name ≡ true
    after None h = refl
    after (Some last) h = first_so (is_before last name) (list_all (is_before last) names) h
