-- Debris in strict order of path: it stays so where some of it goes, is marked, or comes to a place that is apart from all of it.
use Rattle.std.proofs.Common.{◌≡◌, ℕ, ◌+◌, ◌≤◌, Bool, true, false, ◌&&◌, List, [], ◌∷◌, cond, refl, ap₂, ◌∙◌, map, arith}
use Rattle.std.specs.List.{list_all, list_any}
use Rattle.std.proofs.lemmas.Bool.{and_from, and_parts, or_parts}
use Rattle.mat_path.specs.Covering.{covering}
use Rattle.mat_path.specs.Names.{is_prefix, overlap}
use Rattle.mat_path.proofs.CoveringLemmas.{covering-head}
use Rattle.mat_path.proofs.PathLemmas.{overlap_comm}
use Rattle.mat_tree.specs.Trees.{ascends_by, is_after_by}
use Rattle.mat_model.specs.declared.book.Row.{Row}
use Rattle.mat_model.specs.Openings.{path_of_row}
use Rattle.mat_model.specs.Rows.{comes_before}
use Rattle.mat_model.specs.WorkState.{Debris, add_debris, path_of_debris, put_debris}
use Rattle.model_laws.proofs.Apart.{before-trans, before_other}
use Rattle.model_laws.proofs.Coverings.{covering-put}

-- debris behind a path
abbrev are_after : List (List ℕ) → List Debris → Bool
are_after path debris = list_all (is_after_by path_of_debris path) debris

-- debris ascends
abbrev pub Ascends : List Debris → Type 0
Ascends debris = ascends_by path_of_debris debris ≡ true

-- what is behind a path is behind each one before it
after_less : (p q : List (List ℕ)) (debris : List Debris) → comes_before p q ≡ true → are_after q debris ≡ true → are_after p debris ≡ true
after_less p q [] less all = refl
after_less p q (first ∷ debris) less all =
    let parts = and_parts (comes_before q first.path) (are_after q debris) all in
    and_from (comes_before p first.path) (are_after p debris) (before-trans p q first.path less parts.0) (after_less p q debris less parts.1)

after_put : (p : List (List ℕ)) (new : Debris) (debris : List Debris) → comes_before p new.path ≡ true → are_after p debris ≡ true →
    are_after p (put_debris new debris) ≡ true
after_put p new [] here all = and_from (comes_before p new.path) true here refl
after_put p new (first ∷ debris) here all =
    let parts = and_parts (comes_before p first.path) (are_after p debris) all in
    elim (comes_before new.path first.path) as (λ b. are_after p (cond b (new ∷ first ∷ debris) (first ∷ put_debris new debris)) ≡ true) [
      | true ↦ and_from (comes_before p new.path) (are_after p (first ∷ debris)) here all
      | false ↦ and_from (comes_before p first.path) (are_after p (put_debris new debris)) parts.0 (after_put p new debris here parts.1)
    ]

-- debris is put in order where it is apart from all that there is
pub put_ascends : (new : Debris) (debris : List Debris) → Ascends debris → list_any (overlap new.path) (map path_of_debris debris) ≡ false →
    Ascends (put_debris new debris)
put_ascends new [] up clear = refl
put_ascends new (first ∷ debris) up clear =
    let parts = and_parts (are_after first.path debris) (ascends_by path_of_debris debris) up in
    let clears = or_parts (overlap new.path first.path) (list_any (overlap new.path) (map path_of_debris debris)) clear in
    elim (comes_before new.path first.path) as
    (λ b. comes_before new.path first.path ≡ b → ascends_by path_of_debris (cond b (new ∷ first ∷ debris) (first ∷ put_debris new debris)) ≡ true) [
      | true ↦ λ before.
          and_from (are_after new.path (first ∷ debris)) (ascends_by path_of_debris (first ∷ debris))
          (and_from (comes_before new.path first.path) (are_after new.path debris) before (after_less new.path first.path debris before parts.0)) up
      | false ↦ λ later.
          and_from (are_after first.path (put_debris new debris)) (ascends_by path_of_debris (put_debris new debris))
          (after_put first.path new debris (before_other new.path first.path later (overlap_comm first.path new.path ∙ clears.0)) parts.0)
          (put_ascends new debris parts.1 clears.1)
    ] refl

-- the same where the paths of both cover none twice
pub put_apart : (new : Debris) (debris : List Debris) → Ascends debris →
    ((x : List (List ℕ)) → covering x (map path_of_debris debris) + cond (is_prefix new.path x) 1 0 ≤ 1) → Ascends (put_debris new debris)
put_apart new debris up most =
    put_ascends new debris up (covering-head new.path (map path_of_debris debris) (λ x. let h = most x in omega (arith, h)))

-- debris of removed rows comes in order
pub add_ascends : (condemned : Bool) (rows : List Row) (debris : List Debris) → Ascends debris →
    ((x : List (List ℕ)) → covering x (map path_of_debris debris) + covering x (map path_of_row rows) ≤ 1) → Ascends (add_debris condemned rows debris)
add_ascends condemned [] debris up most = up
add_ascends condemned (row ∷ rows) debris up most =
    let new : Debris = record { path = row.path; condemned = condemned } in
    add_ascends condemned rows (put_debris new debris) (put_apart new debris up (λ x. let h = most x in omega (arith, h)))
    (λ x. let h = most x in omega (arith, h, covering-put x new debris))

-- what is marked is in order as it was
pub ascends-map : (f : Debris → Debris) → ((debris : Debris) → (f debris).path ≡ debris.path) → (some : List Debris) →
    ascends_by path_of_debris (map f some) ≡ ascends_by path_of_debris some
ascends-map f keeps [] = refl
ascends-map f keeps (first ∷ some) = ap₂ (λ (s t : Bool). s && t) (after_map some) (ascends-map f keeps some)
  where
    after_map : (others : List Debris) → are_after (f first).path (map f others) ≡ are_after first.path others
    after_map [] = refl
    after_map (other ∷ others) =
        ap₂ (λ (s t : Bool). s && t) (ap₂ comes_before (keeps first) (keeps other)) (after_map others)
