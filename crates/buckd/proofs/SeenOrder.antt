-- The nodes of rows that are apart, as they lie below a path, are in strict order where each row's tree is.
use Rattle.std.proofs.Common.{◌≡◌, ℕ, Bool, true, false, List, [], ◌∷◌, ◌++◌, length, drop, Option, Some, None, cond, refl, sym, ap, ap₂, ◌∙◌}
use Rattle.std.specs.List.{list_all, flat_map, filter_map, cons_option}
use Rattle.std.specs.Option.{option_map}
use Rattle.std.specs.Ordering.{is_lt}
use Rattle.std.proofs.lemmas.Bool.{and_from, and_parts}
use Rattle.std.proofs.lemmas.List.Folds.{list_all-append}
use Rattle.mat_path.specs.Names.{is_prefix, path_cmp}
use Rattle.mat_path.proofs.PathLemmas.{prefix_split, lt_less, path_cmp-append, before_apart}
use Rattle.mat_tree.specs.declared.flat.Flat.{Flat}
use Rattle.mat_tree.specs.Trees.{ascends, is_after}
use Rattle.mat_model.specs.declared.book.Row.{Row}
use Rattle.mat_model.specs.Rows.{are_apart, at_rel, is_apart, seen_node, seen_of}
use Rattle.model_laws.proofs.Apart.{apart_parts}
use Rattle.buckd.specs.Making.{Nodes}
use Rattle.buckd.specs.Shows.{AreOrdered, at_rel_of, is_ordered, node_there, nodes_there}

-- ---- lists in order

-- whether a node comes before all of some
abbrev is_before_all : List Flat → Flat → Bool
is_before_all others node = list_all (is_after node.rel) others

-- two lists in order of which the first comes before the second are in order together
order-append : (xs ys : List Flat) → ascends xs ≡ true → ascends ys ≡ true → list_all (is_before_all ys) xs ≡ true →
    ascends (xs ++ ys) ≡ true
order-append [] ys first second before = second
order-append (x ∷ xs) ys first second before =
    let firsts = and_parts (list_all (is_after x.rel) xs) (ascends xs) first in
    let befores = and_parts (is_before_all ys x) (list_all (is_before_all ys) xs) before in
    and_from (list_all (is_after x.rel) (xs ++ ys)) (ascends (xs ++ ys))
    (list_all-append (is_after x.rel) xs ys ∙ and_from (list_all (is_after x.rel) xs) (is_before_all ys x) firsts.0 befores.0)
    (order-append xs ys firsts.1 second befores.1)

-- what is picked passes a test where each that it is picked from does
all_picked : {A B : Type 0} (p : A → Bool) (q : B → Bool) (f : A → Option B) → ((x : A) (y : B) → f x ≡ Some y → p x ≡ true → q y ≡ true) →
    (xs : List A) → list_all p xs ≡ true → list_all q (filter_map f xs) ≡ true
all_picked p q f passes [] all = refl
all_picked {A = A} p q f passes (x ∷ xs) all =
    let parts = and_parts (p x) (list_all p xs) all in
    let more : list_all q (filter_map f xs) ≡ true = all_picked p q f passes xs parts.1 in
    elim (f x) as (λ o. f x ≡ o → list_all q (cons_option o (filter_map f xs)) ≡ true)
    [ None ↦ λ is. more | Some y ↦ λ is. and_from (q y) (list_all q (filter_map f xs)) (passes x y is parts.0) more ] refl

-- what is picked passes a test that all that can be picked pass
every_picked : {A B : Type 0} (q : B → Bool) (f : A → Option B) → ((x : A) (y : B) → f x ≡ Some y → q y ≡ true) →
    (xs : List A) → list_all q (filter_map f xs) ≡ true
every_picked q f passes [] = refl
every_picked {A = A} q f passes (x ∷ xs) =
    let more : list_all q (filter_map f xs) ≡ true = every_picked q f passes xs in
    elim (f x) as (λ o. f x ≡ o → list_all q (cons_option o (filter_map f xs)) ≡ true)
    [ None ↦ λ is. more | Some y ↦ λ is. and_from (q y) (list_all q (filter_map f xs)) (passes x y is) more ] refl

-- a function that gives nodes in the order of those that it was given
abbrev KeepsOrder : (Flat → Option Flat) → Type 0
KeepsOrder f = (x y z w : Flat) → f x ≡ Some z → f y ≡ Some w → is_after x.rel y ≡ true → is_after z.rel w ≡ true

-- what such a function picks from nodes in order is in order
order_picked : (f : Flat → Option Flat) → KeepsOrder f → (xs : List Flat) → ascends xs ≡ true → ascends (filter_map f xs) ≡ true
order_picked f keeps [] order = refl
order_picked f keeps (x ∷ xs) order =
    let parts = and_parts (list_all (is_after x.rel) xs) (ascends xs) order in
    let more : ascends (filter_map f xs) ≡ true = order_picked f keeps xs parts.1 in
    elim (f x) as (λ o. f x ≡ o → ascends (cons_option o (filter_map f xs)) ≡ true) [
      | None ↦ λ is. more
      | Some z ↦ λ is.
          and_from (list_all (is_after z.rel) (filter_map f xs)) (ascends (filter_map f xs))
          (all_picked (is_after x.rel) (is_after z.rel) f (λ y w picked after. keeps x y z w is picked after) xs parts.0)
          more
    ] refl

-- ---- nodes of rows

-- a node as it lies below a path stands at the same place
seen_place : (path root : List (List ℕ)) (node seen : Flat) → seen_node path root node ≡ Some seen → root ++ node.rel ≡ path ++ seen.rel
seen_place path root node seen is =
    elim (is_prefix path (root ++ node.rel)) as
    (λ b. is_prefix path (root ++ node.rel) ≡ b →
    option_map (at_rel node) (cond b (Some (drop (length path) (root ++ node.rel))) None) ≡ Some seen → root ++ node.rel ≡ path ++ seen.rel) [
      | true ↦ λ under given.
          let same : at_rel node (drop (length path) (root ++ node.rel)) ≡ seen = cc in
          prefix_split path (root ++ node.rel) under ∙ ap (λ (s : Flat). path ++ s.rel) same
      | false ↦ λ off given. cc
    ] refl is

-- how two nodes as they lie below a path compare
seen_cmp : (path first second : List (List ℕ)) (x y z w : Flat) → seen_node path first x ≡ Some z → seen_node path second y ≡ Some w →
    path_cmp z.rel w.rel ≡ path_cmp (first ++ x.rel) (second ++ y.rel)
seen_cmp path first second x y z w one other =
    sym (path_cmp-append path z.rel w.rel)
    ∙ ap₂ path_cmp (sym (seen_place path first x z one)) (sym (seen_place path second y w other))

-- the nodes of one row keep their order
seen_keeps : (path root : List (List ℕ)) → KeepsOrder (seen_node path root)
seen_keeps path root x y z w one other after =
    ap is_lt (seen_cmp path root root x y z w one other ∙ path_cmp-append root x.rel y.rel) ∙ after

-- a node that a disk has stands where the row's node does
there_rel : (path : List (List ℕ)) (disk : Nodes) (node seen : Flat) → node_there path disk node ≡ Some seen → seen.rel ≡ node.rel
there_rel path disk node seen is =
    elim (disk (path ++ node.rel)) as (λ o. option_map (at_rel_of node) o ≡ Some seen → seen.rel ≡ node.rel) [
      | None ↦ λ given. cc
      | Some w ↦ λ given.
          let same : at_rel_of node w ≡ seen = cc in
          ap (λ (s : Flat). s.rel) (sym same)
    ] is

-- the nodes that a disk has keep their order
there_keeps : (path : List (List ℕ)) (disk : Nodes) → KeepsOrder (node_there path disk)
there_keeps path disk x y z w one other after =
    ap is_lt (ap₂ path_cmp (there_rel path disk x z one) (there_rel path disk y w other)) ∙ after

-- a node of a row comes before all of the rows that come after that row
seen_before : (path : List (List ℕ)) (row : Row) (x z : Flat) → seen_node path row.path x ≡ Some z → (rows : List Row) →
    list_all (is_apart row) rows ≡ true → list_all (is_after z.rel) (flat_map (seen_of path) rows) ≡ true
seen_before path row x z is [] all = refl
seen_before path row x z is (next ∷ rows) all =
    let parts = and_parts (is_apart row next) (list_all (is_apart row) rows) all in
    let apart = apart_parts row next parts.0 in
    list_all-append (is_after z.rel) (seen_of path next) (flat_map (seen_of path) rows)
    ∙ and_from (list_all (is_after z.rel) (seen_of path next)) (list_all (is_after z.rel) (flat_map (seen_of path) rows))
    (every_picked (is_after z.rel) (seen_node path next.path)
    (λ y w other. ap is_lt
    (seen_cmp path row.path next.path x y z w is other
    ∙ before_apart row.path next.path (lt_less (path_cmp row.path next.path) apart.0) apart.1 x.rel y.rel))
    next.tree)
    (seen_before path row x z is rows parts.1)

-- the nodes of rows below a path are in order
rows-ascend : (path : List (List ℕ)) (rows : List Row) → AreOrdered rows → are_apart rows ≡ true →
    ascends (flat_map (seen_of path) rows) ≡ true
rows-ascend path [] ordered apart = refl
rows-ascend path (row ∷ rows) ordered apart =
    let orders = and_parts (is_ordered row) (list_all is_ordered rows) ordered in
    let parts = and_parts (list_all (is_apart row) rows) (are_apart rows) apart in
    order-append (seen_of path row) (flat_map (seen_of path) rows)
    (order_picked (seen_node path row.path) (seen_keeps path row.path) row.tree orders.0)
    (rows-ascend path rows orders.1 parts.1)
    (every_picked (is_before_all (flat_map (seen_of path) rows)) (seen_node path row.path)
    (λ x z is. seen_before path row x z is rows parts.0) row.tree)

-- the nodes that a disk has where rows cover them are in strict order
pub there-ascends : (path : List (List ℕ)) (rows : List Row) (disk : Nodes) → AreOrdered rows → are_apart rows ≡ true →
    ascends (nodes_there path rows disk) ≡ true
there-ascends path rows disk ordered apart =
    order_picked (node_there path disk) (there_keeps path disk) (flat_map (seen_of path) rows) (rows-ascend path rows ordered apart)
