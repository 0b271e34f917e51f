-- What the nodes that a disk has, where rows cover them, have at each rel.
use Rattle.mat_path.proofs.SameNames.{same_name-sym, same_names-eq}
use Rattle.mat_path.proofs.Bools.{and_either}
use Rattle.std.proofs.Math.Bool.{and_assoc}
use Rattle.std.proofs.Common.{◌≡◌, ℕ, Bool, true, false, ◌&&◌, ◌||◌, List, [], ◌∷◌, ◌++◌, length, drop, Option, Some, None, cond, refl, sym, ap, ap₂, ◌∙◌}
use Rattle.std.specs.List.{list_any, flat_map, filter_map, cons_option}
use Rattle.std.specs.Option.{option_map}
use Rattle.std.proofs.lemmas.Bool.{and_right}
use Rattle.std.proofs.lemmas.List.Folds.{list_any-append}
use Rattle.mat_path.specs.Names.{same_name, same_names, is_prefix}
use Rattle.mat_tree.specs.declared.flat.Flat.{Flat}
use Rattle.mat_tree.specs.declared.flat.What.{What}
use Rattle.mat_tree.specs.Trees.{has_node, is_at, what_at}
use Rattle.mat_model.specs.declared.book.Row.{Row}
use Rattle.mat_model.specs.Rows.{at_rel, covers, seen_node, seen_of}
use Rattle.buckd.specs.Making.{Nodes}
use Rattle.buckd.specs.Shows.{at_rel_of, node_there, nodes_there}
use Rattle.buckd.proofs.ListedOnce.{what_at-cons}

-- names are a prefix and what follows it where that prefix begins them and the rest follows
same_behind : (p q r : List (List ℕ)) → same_names (p ++ r) q ≡ (is_prefix p q && same_names r (drop (length p) q))
same_behind [] q r = refl
same_behind (x ∷ p) [] r = refl
same_behind (x ∷ p) (y ∷ q) r =
    ap (λ (t : Bool). same_name x y && t) (same_behind p q r)
    ∙ sym (and_assoc (same_name x y) (is_prefix p q) (same_names r (drop (length p) q)))

-- the same with the names first
same_split : (p q r : List (List ℕ)) → same_names q (p ++ r) ≡ (is_prefix p q && same_names (drop (length p) q) r)
same_split [] q r = refl
same_split (x ∷ p) [] r = refl
same_split (x ∷ p) (y ∷ q) r =
    ap₂ (λ (s t : Bool). s && t) (same_name-sym y x) (same_split p q r)
    ∙ sym (and_assoc (same_name x y) (is_prefix p q) (same_names (drop (length p) q) r))

-- ---- which rels have a node

-- whether a node, if there is one, is at a rel
abbrev is_there : List (List ℕ) → Option Flat → Bool
is_there rel None = false
is_there rel (Some node) = is_at rel node

-- a list with one more node, if there is one, has a node where that one is or the list has one
has_more : (o : Option Flat) (nodes : List Flat) (rel : List (List ℕ)) → has_node (cons_option o nodes) rel ≡ (is_there rel o || has_node nodes rel)
has_more None nodes rel = refl
has_more (Some node) nodes rel = refl

-- a node as it lies below a path is at a rel where its place is that rel's
seen_there : (path root rel : List (List ℕ)) (node : Flat) →
    is_there rel (seen_node path root node) ≡ (is_prefix root (path ++ rel) && is_at (drop (length root) (path ++ rel)) node)
seen_there path root rel node =
    elim (is_prefix path (root ++ node.rel)) as
    (λ b. is_there rel (option_map (at_rel node) (cond b (Some (drop (length path) (root ++ node.rel))) None))
    ≡ (b && same_names (drop (length path) (root ++ node.rel)) rel)) [ true ↦ refl | false ↦ refl ]
    ∙ sym (same_split path (root ++ node.rel) rel)
    ∙ same_behind root (path ++ rel) node.rel

-- the nodes of a tree as they lie below a path have one at a rel where the tree has one at that place
seen_has : (path root rel : List (List ℕ)) (tree : List Flat) →
    has_node (filter_map (seen_node path root) tree) rel ≡ (is_prefix root (path ++ rel) && has_node tree (drop (length root) (path ++ rel)))
seen_has path root rel [] = sym (and_right (is_prefix root (path ++ rel)) false refl)
seen_has path root rel (node ∷ tree) =
    has_more (seen_node path root node) (filter_map (seen_node path root) tree) rel
    ∙ ap₂ (λ (s t : Bool). s || t) (seen_there path root rel node) (seen_has path root rel tree)
    ∙ and_either (is_prefix root (path ++ rel)) (is_at (drop (length root) (path ++ rel)) node) (has_node tree (drop (length root) (path ++ rel)))

-- the nodes of rows below a path have one at a rel where a row covers that place
pub rows_have : (path : List (List ℕ)) (rows : List Row) (rel : List (List ℕ)) →
    has_node (flat_map (seen_of path) rows) rel ≡ list_any (covers (path ++ rel)) rows
rows_have path [] rel = refl
rows_have path (row ∷ rows) rel =
    list_any-append (is_at rel) (seen_of path row) (flat_map (seen_of path) rows)
    ∙ ap₂ (λ (s t : Bool). s || t) (seen_has path row.path rel row.tree) (rows_have path rows rel)

-- ---- what stands there

-- nothing, by a test
cond_none : (b : Bool) → cond {A = Option What} b None None ≡ None
cond_none true = refl
cond_none false = refl

-- what a disk has of some nodes at a rel: what it has there, where one of them is there
picked-what : (path : List (List ℕ)) (disk : Nodes) (nodes : List Flat) (rel : List (List ℕ)) →
    what_at (filter_map (node_there path disk) nodes) rel ≡ cond (has_node nodes rel) (disk (path ++ rel)) None
picked-what path disk [] rel = refl
picked-what path disk (node ∷ nodes) rel =
    let others : List Flat = filter_map (node_there path disk) nodes in
    let more : what_at others rel ≡ cond (has_node nodes rel) (disk (path ++ rel)) None = picked-what path disk nodes rel in
    elim (disk (path ++ node.rel)) as
    (λ o. disk (path ++ node.rel) ≡ o → what_at (cons_option (option_map (at_rel_of node) o) others) rel
    ≡ cond (same_names node.rel rel || has_node nodes rel) (disk (path ++ rel)) None) [
      | None ↦ λ is.
          more
          ∙ elim (same_names node.rel rel) as
          (λ s. same_names node.rel rel ≡ s → cond (has_node nodes rel) (disk (path ++ rel)) None
          ≡ cond (s || has_node nodes rel) (disk (path ++ rel)) None) [
            | true ↦ λ same.
                let none : disk (path ++ rel) ≡ None = ap (λ (r : List (List ℕ)). disk (path ++ r)) (sym (same_names-eq node.rel rel same)) ∙ is in
                ap (λ (o : Option What). cond (has_node nodes rel) o None) none ∙ cond_none (has_node nodes rel) ∙ sym none
            | false ↦ λ same. refl
          ] refl
      | Some w ↦ λ is.
          what_at-cons (at_rel_of node w) others rel
          ∙ elim (same_names node.rel rel) as
          (λ s. same_names node.rel rel ≡ s → cond s (Some w) (what_at others rel)
          ≡ cond (s || has_node nodes rel) (disk (path ++ rel)) None) [
            | true ↦ λ same. sym (ap (λ (r : List (List ℕ)). disk (path ++ r)) (sym (same_names-eq node.rel rel same)) ∙ is)
            | false ↦ λ same. more
          ] refl
    ] refl

-- what is shown below a path has at each rel what the disk has there, where a row covers the place
pub there-what : (path : List (List ℕ)) (rows : List Row) (disk : Nodes) (rel : List (List ℕ)) →
    what_at (nodes_there path rows disk) rel ≡ cond (list_any (covers (path ++ rel)) rows) (disk (path ++ rel)) None
there-what path rows disk rel =
    picked-what path disk (flat_map (seen_of path) rows) rel
    ∙ ap (λ (b : Bool). cond b (disk (path ++ rel)) None) (rows_have path rows rel)
