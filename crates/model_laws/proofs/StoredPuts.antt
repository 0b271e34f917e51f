-- What a kept row covers that is put among others in order of path.
use Rattle.std.proofs.Common.{◌≡◌, ℕ, ◌+◌, Bool, true, false, ◌||◌, List, [], ◌∷◌, cond, refl, ap, subst, map, arith}
use Rattle.std.specs.List.{list_all, list_any}
use Rattle.std.specs.Ordering.{is_lt}
use Rattle.std.proofs.lemmas.Bool.{and_parts, both_ways, or_parts}
use Rattle.mat_path.specs.Covering.{covering}
use Rattle.mat_path.specs.Names.{is_prefix, same_names}
use Rattle.mat_path.proofs.CoveringLemmas.{among_contains}
use Rattle.mat_path.proofs.Elements.{mapped_contains}
use Rattle.mat_path.proofs.PathLemmas.{path_cmp-refl}
use Rattle.mat_path.proofs.SameNames.{same_names-eq}
use Rattle.mat_tree.specs.Trees.{ascends_by, is_after_by}
use Rattle.mat_model.specs.Kept.{KeptRow, put_kept}
use Rattle.mat_model.specs.Rows.{comes_before}
use Rattle.model_laws.specs.KeptRules.{path_of_kept}
use Rattle.model_laws.proofs.Apart.{before-trans}
use Rattle.model_laws.proofs.Elements.{contains_all}

-- whether a row is kept at a path
abbrev pub is_kept_at : List (List ℕ) → List KeptRow → Bool
is_kept_at path kept = list_any (same_names path) (map path_of_kept kept)

-- a row that is put in the place of the one at its path changes no path
pub put_kept_there : (new : KeptRow) (kept : List KeptRow) → ascends_by path_of_kept kept ≡ true → is_kept_at new.path kept ≡ true →
    map path_of_kept (put_kept new kept) ≡ map path_of_kept kept
put_kept_there new [] up there = absurd cc
put_kept_there new (row ∷ rows) up there =
    let parts = and_parts (list_all (is_after_by path_of_kept row.path) rows) (ascends_by path_of_kept rows) up in
    elim (same_names new.path row.path) as
    (λ b. same_names new.path row.path ≡ b → (b || is_kept_at new.path rows) ≡ true →
    map path_of_kept (cond b (new ∷ rows) (cond (comes_before new.path row.path) (new ∷ row ∷ rows) (row ∷ put_kept new rows))) ≡ row.path ∷ map path_of_kept rows) [
      | true ↦ λ same is. ap (λ (p : List (List ℕ)). p ∷ map path_of_kept rows) (same_names-eq new.path row.path same)
      | false ↦ λ differ is.
          elim (comes_before new.path row.path) as
          (λ b. comes_before new.path row.path ≡ b → map path_of_kept (cond b (new ∷ row ∷ rows) (row ∷ put_kept new rows)) ≡ row.path ∷ map path_of_kept rows) [
            | true ↦ λ before.
                let (other, within, at) = mapped_contains path_of_kept rows new.path (among_contains new.path (map path_of_kept rows) is) in
                let behind : comes_before row.path other.path ≡ true = contains_all (is_after_by path_of_kept row.path) rows other parts.0 within in
                absurd (both_ways (comes_before new.path new.path) (ap is_lt (path_cmp-refl new.path))
                (before-trans new.path row.path new.path before (subst (λ (p : List (List ℕ)). comes_before row.path p ≡ true) at behind)))
            | false ↦ λ later. ap (λ (ps : List (List (List ℕ))). row.path ∷ ps) (put_kept_there new rows parts.1 is)
          ] refl
    ] refl there

-- and one at a new path counts beside the others
pub put_kept_new : (x : List (List ℕ)) (new : KeptRow) (kept : List KeptRow) → is_kept_at new.path kept ≡ false →
    covering x (map path_of_kept (put_kept new kept)) ≡ covering x (map path_of_kept kept) + cond (is_prefix new.path x) 1 0
put_kept_new x new [] none = omega arith
put_kept_new x new (row ∷ rows) none =
    let parts = or_parts (same_names new.path row.path) (is_kept_at new.path rows) none in
    by (same_names new.path row.path) (comes_before new.path row.path) parts.0 (put_kept_new x new rows parts.1)
  where
    by : (b c : Bool) → b ≡ false → covering x (map path_of_kept (put_kept new rows)) ≡ covering x (map path_of_kept rows) + cond (is_prefix new.path x) 1 0 →
        covering x (map path_of_kept (cond b (new ∷ rows) (cond c (new ∷ row ∷ rows) (row ∷ put_kept new rows))))
        ≡ cond (is_prefix row.path x) 1 0 + covering x (map path_of_kept rows) + cond (is_prefix new.path x) 1 0
    by true c is e = cc
    by false true is e = omega arith
    by false false is e = omega (arith, e)
