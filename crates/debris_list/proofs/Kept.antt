-- Debris stays in order and apart where it is put into its place, taken out or marked.
use Rattle.std.proofs.Common.{◌≡◌, ℕ, Bool, true, false, not, ◌&&◌, cond, List, [], ◌∷◌, map, inl, inr, refl, ◌∙◌, sym, ap, ap₂, subst}
use Rattle.std.specs.List.{filter, list_all, list_any}
use Rattle.std.proofs.lemmas.Bool.{and_from, and_parts, both_ways, or_parts}
use Rattle.mat_path.specs.Names.{overlap, same_names}
use Rattle.mat_path.proofs.Overlaps.{overlap-refl}
use Rattle.mat_path.proofs.PathLemmas.{overlap_comm}
use Rattle.mat_model.specs.Rows.{comes_before}
use Rattle.mat_model.specs.WorkState.{Debris, marked, put_debris}
use Rattle.debris_list.specs.Pieces.{are_apart, is_apart, overlaps_debris}
use Rattle.debris_list.proofs.Order.{before_cases, before_trans}

-- what some test keeps
all_kept : (p q : Debris → Bool) (xs : List Debris) → list_all p xs ≡ true → list_all p (filter q xs) ≡ true
all_kept p q [] all = refl
all_kept p q (x ∷ xs) all =
    let parts = and_parts (p x) (list_all p xs) all in
    elim (q x) as (λ b. list_all p (cond b (x ∷ filter q xs) (filter q xs)) ≡ true)
    [ true ↦ and_from (p x) (list_all p (filter q xs)) parts.0 (all_kept p q xs parts.1) | false ↦ all_kept p q xs parts.1 ]

pub kept_apart : (q : Debris → Bool) (xs : List Debris) → are_apart xs ≡ true → are_apart (filter q xs) ≡ true
kept_apart q [] up = refl
kept_apart q (x ∷ xs) up =
    let parts = and_parts (list_all (is_apart x) xs) (are_apart xs) up in
    elim (q x) as (λ b. are_apart (cond b (x ∷ filter q xs) (filter q xs)) ≡ true) [
      | true ↦ and_from (list_all (is_apart x) (filter q xs)) (are_apart (filter q xs)) (all_kept (is_apart x) q xs parts.0) (kept_apart q xs parts.1)
      | false ↦ kept_apart q xs parts.1
    ]

-- a mark leaves the path
marked_path : (mark : Bool) (path : List (List ℕ)) (d : Debris) → (marked mark path d).path ≡ d.path
marked_path mark path d =
    elim (same_names d.path path) as (λ b. (cond {A = Debris} b (record d { condemned = mark }) d).path ≡ d.path) [ true ↦ refl | false ↦ refl ]

all_marked : (mark : Bool) (path : List (List ℕ)) (x y : Debris) (xs : List Debris) → y.path ≡ x.path → list_all (is_apart x) xs ≡ true →
    list_all (is_apart y) (map (marked mark path) xs) ≡ true
all_marked mark path x y [] same all = refl
all_marked mark path x y (z ∷ xs) same all =
    let parts = and_parts (is_apart x z) (list_all (is_apart x) xs) all in
    and_from (is_apart y (marked mark path z)) (list_all (is_apart y) (map (marked mark path) xs))
    (ap₂ (λ (p q : List (List ℕ)). comes_before p q && not (overlap p q)) same (marked_path mark path z) ∙ parts.0)
    (all_marked mark path x y xs same parts.1)

pub marked_apart : (mark : Bool) (path : List (List ℕ)) (xs : List Debris) → are_apart xs ≡ true → are_apart (map (marked mark path) xs) ≡ true
marked_apart mark path [] up = refl
marked_apart mark path (x ∷ xs) up =
    let parts = and_parts (list_all (is_apart x) xs) (are_apart xs) up in
    and_from (list_all (is_apart (marked mark path x)) (map (marked mark path) xs)) (are_apart (map (marked mark path) xs))
    (all_marked mark path x (marked mark path x) xs (marked_path mark path x) parts.0) (marked_apart mark path xs parts.1)

-- ---- one more

all_put : (p : Debris → Bool) (new : Debris) (xs : List Debris) → p new ≡ true → list_all p xs ≡ true → list_all p (put_debris new xs) ≡ true
all_put p new [] here all = and_from (p new) true here refl
all_put p new (x ∷ xs) here all =
    let parts = and_parts (p x) (list_all p xs) all in
    elim (comes_before new.path x.path) as (λ b. list_all p (cond b (new ∷ x ∷ xs) (x ∷ put_debris new xs)) ≡ true) [
      | true ↦ and_from (p new) (list_all p (x ∷ xs)) here all
      | false ↦ and_from (p x) (list_all p (put_debris new xs)) parts.0 (all_put p new xs here parts.1)
    ]

apart_from : (x y : Debris) → comes_before x.path y.path ≡ true → overlap x.path y.path ≡ false → is_apart x y ≡ true
apart_from x y before clear = and_from (comes_before x.path y.path) (not (overlap x.path y.path)) before (ap not clear)

-- what is in front of something is in front of all behind it, where it overlaps none
all_behind : (new x : Debris) (xs : List Debris) → comes_before new.path x.path ≡ true → list_all (is_apart x) xs ≡ true →
    list_any (overlaps_debris new.path) xs ≡ false → list_all (is_apart new) xs ≡ true
all_behind new x [] before all clear = refl
all_behind new x (y ∷ xs) before all clear =
    let parts = and_parts (is_apart x y) (list_all (is_apart x) xs) all in
    let others = or_parts (overlaps_debris new.path y) (list_any (overlaps_debris new.path) xs) clear in
    and_from (is_apart new y) (list_all (is_apart new) xs)
    (apart_from new y (before_trans new.path x.path y.path before (and_parts (comes_before x.path y.path) (not (overlap x.path y.path)) parts.0).0)
    (overlap_comm new.path y.path ∙ others.0))
    (all_behind new x xs before parts.1 others.1)

pub put_apart : (new : Debris) (xs : List Debris) → list_any (overlaps_debris new.path) xs ≡ false → are_apart xs ≡ true → are_apart (put_debris new xs) ≡ true
put_apart new [] clear up = refl
put_apart new (x ∷ xs) clear up =
    let parts = and_parts (list_all (is_apart x) xs) (are_apart xs) up in
    let others = or_parts (overlaps_debris new.path x) (list_any (overlaps_debris new.path) xs) clear in
    elim (comes_before new.path x.path) as
    (λ b. comes_before new.path x.path ≡ b → are_apart (cond b (new ∷ x ∷ xs) (x ∷ put_debris new xs)) ≡ true) [
      | true ↦ λ before.
          and_from (list_all (is_apart new) (x ∷ xs)) (are_apart (x ∷ xs))
          (and_from (is_apart new x) (list_all (is_apart new) xs) (apart_from new x before (overlap_comm new.path x.path ∙ others.0))
          (all_behind new x xs before parts.0 others.1)) up
      | false ↦ λ later.
          elim (before_cases new.path x.path later) [
            | inl same ↦
                absurd (both_ways (overlap x.path new.path) others.0 (subst (λ (p : List (List ℕ)). overlap x.path p ≡ true) (sym same) (overlap-refl x.path)))
            | inr behind ↦
                and_from (list_all (is_apart x) (put_debris new xs)) (are_apart (put_debris new xs))
                (all_put (is_apart x) new xs (apart_from x new behind others.0) parts.0) (put_apart new xs others.1 parts.1)
          ]
    ] refl
