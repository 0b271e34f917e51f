-- The rough paths of a list, with more paths, or with those of one part alone.
use Rattle.mat_path.proofs.Elements.{filter_all}
use Rattle.mat_path.proofs.SameNames.{is_prefix-refl, same_names-Decides}
use Rattle.std.proofs.Common.{◌≡◌, ℕ, Bool, true, false, ◌&&◌, ◌||◌, not, List, [], ◌∷◌, ◌++◌, refl, ap, sym, ◌∙◌}
use Rattle.std.specs.List.{filter, list_all}
use Rattle.std.proofs.lemmas.Bool.{false_from_ne_true}
use mathlib.Core.Bool.{true≢false}
use Rattle.std.proofs.lemmas.List.Folds.{list_any-append}
use Rattle.std.proofs.lemmas.Map.Views.{any-filter_same}
use Rattle.mat_path.specs.Names.{same_names, is_prefix}
use Rattle.region_port.specs.Calls.{paths_below, paths_outside, paths_of_both, with_path}
use Rattle.region_port.specs.Entries.{paths_of, is_within, is_outside, rough_paths}

-- of the paths at or below one, the rough ones are those of the list that are there
pub paths_of-within : (place : List (List ℕ)) (list : List (List (List ℕ))) → paths_of (filter (is_within (λ p. p) place) list) ≡ paths_below place (paths_of list)
paths_of-within place list =
    let each : (q : List (List ℕ)) → paths_of (filter (is_within (λ p. p) place) list) q ≡ paths_below place (paths_of list) q =
    λ q. any-filter_same (same_names q) (is_within (λ p. p) place) (is_prefix place q) (λ k h. ap (is_prefix place) (sym ((same_names-Decides q k).0 h))) list
    in λ i q. each q i

-- of the paths that are not at or below one, the rough ones are those of the list that are elsewhere
pub paths_of-outside : (place : List (List ℕ)) (list : List (List (List ℕ))) → paths_of (filter (is_outside (λ p. p) place) list) ≡ paths_outside place (paths_of list)
paths_of-outside place list =
    let each : (q : List (List ℕ)) → paths_of (filter (is_outside (λ p. p) place) list) q ≡ paths_outside place (paths_of list) q =
    λ q. any-filter_same (same_names q) (is_outside (λ p. p) place) (not (is_prefix place q)) (λ k h. ap (λ p. not (is_prefix place p)) (sym ((same_names-Decides q k).0 h))) list
    in λ i q. each q i

-- the rough paths of two lists are those of both
pub paths_of-append : (others list : List (List (List ℕ))) → paths_of (others ++ list) ≡ paths_of_both (paths_of others) (paths_of list)
paths_of-append others list =
    let each : (q : List (List ℕ)) → paths_of (others ++ list) q ≡ paths_of_both (paths_of others) (paths_of list) q =
    λ q. list_any-append (same_names q) others list
    in λ i q. each q i

-- a path more
pub paths_of-push : (list : List (List (List ℕ))) (place : List (List ℕ)) → paths_of (list ++ place ∷ []) ≡ with_path place (paths_of list)
paths_of-push list place =
    let each : (q : List (List ℕ)) → paths_of (list ++ place ∷ []) q ≡ with_path place (paths_of list) q =
    λ q. list_any-append (same_names q) list (place ∷ []) ∙ swap (paths_of list q) (same_names q place)
    in λ i q. each q i
  where
    swap : (a b : Bool) → (a || (b || false)) ≡ (b || a)
    swap true true = refl
    swap true false = refl
    swap false true = refl
    swap false false = refl

-- the rough paths of a region are at or below its place
pub rough_paths-within : (whole : Bool) (place : List (List ℕ)) (list : List (List (List ℕ))) → list_all (is_prefix place) list ≡ true → paths_below place (rough_paths whole place list) ≡ rough_paths whole place list
rough_paths-within whole place list all =
    let kept : paths_of list ≡ paths_below place (paths_of list) =
    ap paths_of (sym (filter_all (is_within (λ p. p) place) list all)) ∙ paths_of-within place list in
    let each : (q : List (List ℕ)) → paths_below place (rough_paths whole place list) q ≡ rough_paths whole place list q =
    λ q. by q (is_prefix place q) refl (ap (λ paths. paths q) kept) in
    λ i q. each q i
  where
    no : (a : Bool) → (a && false) ≡ false
    no true = refl
    no false = refl

    by : (q : List (List ℕ)) (b : Bool) → is_prefix place q ≡ b → paths_of list q ≡ (is_prefix place q && paths_of list q) → (b && rough_paths whole place list q) ≡ rough_paths whole place list q
    by q true h e = refl
    by q false h e =
        let elsewhere : same_names q place ≡ false = false_from_ne_true (same_names q place) (λ k. true≢false (sym (is_prefix-refl place q k) ∙ h)) in
        sym (ap (λ b. (whole && b) || paths_of list q) elsewhere ∙ ap (λ b. b || paths_of list q) (no whole) ∙ e ∙ ap (λ b. b && paths_of list q) h)
