-- Two lists of nodes in strict order that have the same at each rel are the same.
use Rattle.mat_path.proofs.SameNames.{same_names-eq, same_names-refl}
use Rattle.std.specs.List.{list_all}
use Rattle.mat_tree.proofs.Ascending.{after_head}
use Rattle.std.proofs.Common.{◌≡◌, ℕ, Bool, true, false, List, [], ◌∷◌, Some, None, cond, Ordering, Less, Equal, Greater, refl, sym, ap, ap₂, subst, ◌∙◌, find}
use Rattle.std.specs.Option.{option_map}
use Rattle.std.specs.Ordering.{is_lt, ordering_reverse}
use Rattle.std.proofs.lemmas.Bool.{and_parts, both_ways}
use Rattle.mat_path.specs.Names.{same_names, path_cmp}
use Rattle.mat_path.proofs.PathLemmas.{path_cmp_total, path_cmp_equal}
use Rattle.mat_tree.specs.declared.flat.Flat.{Flat}
use Rattle.mat_tree.specs.declared.flat.What.{What}
use Rattle.mat_tree.specs.Trees.{ascends, is_after, is_at, what_at, what_of}
use Rattle.mat_model.specs.Rows.{comes_before}

-- what a list of nodes has at a rel: its first node, or what the others have
pub what_at-cons : (node : Flat) (nodes : List Flat) (rel : List (List ℕ)) →
    what_at (node ∷ nodes) rel ≡ cond (same_names node.rel rel) (Some node.what) (what_at nodes rel)
what_at-cons node nodes rel =
    elim (same_names node.rel rel) as
    (λ b. option_map what_of (cond b (Some node) (find (is_at rel) nodes)) ≡ cond b (Some node.what) (what_at nodes rel))
    [ true ↦ refl | false ↦ refl ]

-- an answer that is its own opposite isn't Less
not_turned : (o : Ordering) → o ≡ ordering_reverse o → is_lt o ≡ false
not_turned Less turned = cc
not_turned Equal turned = refl
not_turned Greater turned = refl

-- a rel before another one isn't that one
before_differ : (p q : List (List ℕ)) → comes_before p q ≡ true → same_names q p ≡ false
before_differ p q before =
    elim (same_names q p) as (λ b. same_names q p ≡ b → b ≡ false) [
      | true ↦ λ same. absurd (both_ways (comes_before p p)
          (not_turned (path_cmp p p) (path_cmp_total.antisymm p p))
          (subst (λ (r : List (List ℕ)). comes_before p r ≡ true) (same_names-eq q p same) before))
      | false ↦ λ same. refl
    ] refl

-- nodes in order have nothing at a rel that comes before the first
later_none : (rel : List (List ℕ)) (nodes : List Flat) → list_all (is_after rel) nodes ≡ true → ascends nodes ≡ true →
    what_at nodes rel ≡ None
later_none rel [] first order = refl
later_none rel (node ∷ nodes) first order =
    let parts = and_parts (list_all (is_after node.rel) nodes) (ascends nodes) order in
    let before = and_parts (is_after rel node) (list_all (is_after rel) nodes) first in
    what_at-cons node nodes rel
    ∙ ap (λ (b : Bool). cond b (Some node.what) (what_at nodes rel)) (before_differ rel node.rel before.0)
    ∙ later_none rel nodes before.1 parts.1

-- nodes have the first one at its rel
what_first : (node : Flat) (nodes : List Flat) → what_at (node ∷ nodes) node.rel ≡ Some node.what
what_first node nodes =
    what_at-cons node nodes node.rel
    ∙ ap (λ (b : Bool). cond b (Some node.what) (what_at nodes node.rel)) (same_names-refl node.rel)

-- two lists of nodes in strict order that have the same at each rel are the same
pub listed_once : (xs ys : List Flat) → ascends xs ≡ true → ascends ys ≡ true →
    ((rel : List (List ℕ)) → what_at xs rel ≡ what_at ys rel) → xs ≡ ys
listed_once [] [] first second same = refl
listed_once [] (y ∷ ys) first second same =
    let here : None ≡ Some y.what = same y.rel ∙ what_first y ys in cc
listed_once (x ∷ xs) [] first second same =
    let here : Some x.what ≡ None = sym (what_first x xs) ∙ same x.rel in cc
listed_once (x ∷ xs) (y ∷ ys) first second same =
    let firsts = and_parts (list_all (is_after x.rel) xs) (ascends xs) first in
    let seconds = and_parts (list_all (is_after y.rel) ys) (ascends ys) second in
    elim (path_cmp x.rel y.rel) as (λ o. path_cmp x.rel y.rel ≡ o → (x ∷ xs) ≡ (y ∷ ys)) [
      | Less ↦ λ is.
          let here : Some x.what ≡ None =
          sym (what_first x xs) ∙ same x.rel ∙ later_none x.rel (y ∷ ys) (after_head x.rel y ys (ap is_lt is) seconds.0) second in cc
      | Equal ↦ λ is.
          let at : x.rel ≡ y.rel = path_cmp_equal x.rel y.rel is in
          let here : Some x.what ≡ Some y.what =
          sym (what_first x xs) ∙ same x.rel ∙ ap (λ (r : List (List ℕ)). what_at (y ∷ ys) r) at ∙ what_first y ys in
          let kind : x.what ≡ y.what = cc in
          let node : x ≡ y = ap₂ (λ (r : List (List ℕ)) (w : What). let n : Flat = record { rel = r; what = w } in n) at kind in
          ap₂ (λ (n : Flat) (ns : List Flat). n ∷ ns) node
          (listed_once xs ys firsts.1 seconds.1
          (λ rel. elim (same_names x.rel rel) as (λ b. same_names x.rel rel ≡ b → what_at xs rel ≡ what_at ys rel) [
            | true ↦ λ there.
                let place : x.rel ≡ rel = same_names-eq x.rel rel there in
                let none_x : what_at xs x.rel ≡ None = later_none x.rel xs firsts.0 firsts.1 in
                let none_y : what_at ys y.rel ≡ None = later_none y.rel ys seconds.0 seconds.1 in
                ap (λ (r : List (List ℕ)). what_at xs r) (sym place) ∙ none_x ∙ sym none_y
                ∙ ap (λ (r : List (List ℕ)). what_at ys r) (sym at ∙ place)
            | false ↦ λ there.
                let gone_x : what_at (x ∷ xs) rel ≡ what_at xs rel =
                what_at-cons x xs rel ∙ ap (λ (b : Bool). cond b (Some x.what) (what_at xs rel)) there in
                let gone_y : what_at (y ∷ ys) rel ≡ what_at ys rel =
                what_at-cons y ys rel
                ∙ ap (λ (b : Bool). cond b (Some y.what) (what_at ys rel)) (ap (λ (r : List (List ℕ)). same_names r rel) (sym at) ∙ there) in
                sym gone_x ∙ same rel ∙ gone_y
          ] refl))
      | Greater ↦ λ is.
          let turned : path_cmp y.rel x.rel ≡ Less = path_cmp_total.antisymm y.rel x.rel ∙ ap ordering_reverse is in
          let here : None ≡ Some y.what =
          sym (later_none y.rel (x ∷ xs) (after_head y.rel x xs (ap is_lt turned) firsts.0) first) ∙ same y.rel ∙ what_first y ys in cc
    ] refl
