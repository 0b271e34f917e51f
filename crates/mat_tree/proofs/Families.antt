-- The children of a directory, in its flat list: they are its nodes of one name, and below each name stands that child's own list.
use Rattle.mat_path.proofs.SameNames.{same_name-refl, same_name-sym}
use Rattle.std.specs.Cmp.{first_so}
use Rattle.std.proofs.Common.{◌≡◌, ℕ, true, cond, List, [], ◌∷◌, ◌++◌, map, drop, refl, ◌∙◌, sym, ap}
use Rattle.std.proofs.lemmas.List.{map-append}
use Rattle.std.proofs.lemmas.List.Elements.{filter-append}
use Rattle.std.specs.List.{list_all, find, filter}
use Rattle.std.specs.declared.option.Option.TheVariants.{Some}
use Rattle.mat_tree.specs.declared.flat.Flat.{Flat}
use Rattle.mat_tree.specs.declared.flat.What.{What}
use Rattle.mat_tree.specs.declared.node.Node.{Node, out-Node}
use Rattle.mat_tree.specs.declared.node.Node.TheOpen as layer
use Rattle.mat_tree.specs.declared.node.Node.TheFolds.{map-Node, fold_out-Node}
use Rattle.mat_tree.specs.declared.node.Child.{Child, out-Child}
use Rattle.mat_tree.specs.declared.node.Children.{Children, out-Children}
use Rattle.mat_tree.specs.Nodes.{at_root, put_in, node_step, child_step, children_step, layer_what, what_node, below_node, below_child, below_children, below_all, is_named}
use Rattle.mat_tree.specs.Sums.{is_child}
use Rattle.mat_tree.specs.Trees.{is_after, ascends, sub_tree}
use Rattle.mat_tree.proofs.Ascending.{ascends_right}
use Rattle.mat_tree.proofs.Folds.{below_child_out, below_children_out}
use Rattle.mat_tree.proofs.Joins.{all_left, all_right}
use Rattle.mat_tree.proofs.Paths.{lesser_name_differs}
use Rattle.mat_tree.proofs.Subtrees.{after_child, child_begins, found_sub, sub_tree_children, sub_tree_root}

-- ---- a node's list is the node, and the lists of its children

-- the children of a layer; a file and a link have none
abbrev pub layer_children : layer.Node-F Node Child Children → List Child
layer_children (layer.File digest exec) = []
layer_children (layer.Dir children) = (out-Children children).list
layer_children (layer.Link target) = []

-- the children of a node
abbrev pub children_node : Node → List Child
children_node n = layer_children (out-Node n)

shape_layer : (y : layer.Node-F Node Child Children)
    → node_step (map-Node Node Child Children (List Flat) (List Flat) (List Flat) below_node below_child below_children y)
    ≡ at_root (layer_what y) ∷ below_all (layer_children y)
shape_layer (layer.File digest exec) = refl
shape_layer (layer.Dir children) = ap (λ (t : List Flat). node_step (layer.Dir t)) (below_children_out children)
shape_layer (layer.Link target) = refl

-- a node's list is the node at its root, and then the lists of its children
pub node_then_children : (n : Node) → below_node n ≡ at_root (what_node n) ∷ below_all (children_node n)
node_then_children n = fold_out-Node (List Flat) (List Flat) (List Flat) node_step child_step children_step n ∙ shape_layer (out-Node n)

-- ---- the children in a list

-- a child, as a node of its directory's list
abbrev pub as_flat : Child → Flat
as_flat c = put_in (out-Child c).name (at_root (what_node (out-Child c).node))

-- a node with two names before it is no child
deep : (a b : List ℕ) (xs : List Flat) → filter is_child (map (put_in a) (map (put_in b) xs)) ≡ []
deep a b [] = refl
deep a b (x ∷ xs) = deep a b xs

deep_all : (a : List ℕ) (cs : List Child) → filter is_child (map (put_in a) (below_all cs)) ≡ []
deep_all a [] = refl
deep_all a (c ∷ cs) =
    ap (filter is_child) (map-append (put_in a) (below_child c) (below_all cs))
    ∙ filter-append is_child (map (put_in a) (below_child c)) (map (put_in a) (below_all cs))
    ∙ ap (λ t. t ++ filter is_child (map (put_in a) (below_all cs)))
    (ap (λ t. filter is_child (map (put_in a) t)) (below_child_out c) ∙ deep a (out-Child c).name (below_node (out-Child c).node))
    ∙ deep_all a cs

child_is : (c : Child) → filter is_child (below_child c) ≡ as_flat c ∷ []
child_is c =
    ap (filter is_child) (below_child_out c ∙ ap (map (put_in (out-Child c).name)) (node_then_children (out-Child c).node))
    ∙ ap (λ t. as_flat c ∷ t) (deep_all (out-Child c).name (children_node (out-Child c).node))

-- the nodes of one name in the lists of some children are the children
pub children_are : (cs : List Child) → filter is_child (below_all cs) ≡ map as_flat cs
children_are [] = refl
children_are (c ∷ cs) =
    filter-append is_child (below_child c) (below_all cs) ∙ ap (λ t. t ++ filter is_child (below_all cs)) (child_is c)
    ∙ ap (λ t. as_flat c ∷ t) (children_are cs)

-- ---- the child of a name

-- each of some children is found among all by its name
abbrev pub IsFound : List Child → List Child → Type 0
IsFound all [] = Unit {0}
IsFound all (c ∷ cs) = (find (is_named (out-Child c).name) all ≡ Some c) × IsFound all cs

-- a child whose name is less than theirs is none of these
found_more : (c : Child) (cs xs : List Child) → list_all (is_after ((out-Child c).name ∷ [])) (below_all xs) ≡ true → IsFound cs xs → IsFound (c ∷ cs) xs
found_more c cs [] e f = tt
found_more c cs (x ∷ xs) e f =
    let first = ap (list_all (is_after ((out-Child c).name ∷ []))) (sym (child_begins x))
    ∙ all_left (is_after ((out-Child c).name ∷ [])) (below_child x) (below_all xs) e in
    let other = lesser_name_differs (out-Child c).name (out-Child x).name
    (first_so (is_after ((out-Child c).name ∷ []) (as_flat x))
    (list_all (is_after ((out-Child c).name ∷ [])) (map (put_in (out-Child x).name) (drop 1 (below_node (out-Child x).node)))) first) in (
      ap (λ b. cond b (Some c) (find (is_named (out-Child x).name) cs)) (same_name-sym (out-Child x).name (out-Child c).name ∙ other) ∙ f.0,
      found_more c cs xs (all_right (is_after ((out-Child c).name ∷ [])) (below_child x) (below_all xs) e) f.1,
    )

-- in lists that ascend each child is found by its name
pub each_is_found : (cs : List Child) → ascends (below_all cs) ≡ true → IsFound cs cs
each_is_found [] e = tt
each_is_found (c ∷ cs) e = (
  ap (λ b. cond b (Some c) (find (is_named (out-Child c).name) cs)) (same_name-refl (out-Child c).name),
  found_more c cs cs (after_child c cs e) (each_is_found cs (ascends_right (below_child c) (below_all cs) e)),
)

-- below the name of a child that is found stands its own list
pub below_name : (w : What) (all : List Child) (c : Child) → ascends (below_all all) ≡ true → find (is_named (out-Child c).name) all ≡ Some c
    → sub_tree (at_root w ∷ below_all all) ((out-Child c).name ∷ []) ≡ below_node (out-Child c).node
below_name w all c e f = sub_tree_children (out-Child c).name [] all e ∙ ap (found_sub []) f ∙ sub_tree_root (below_node (out-Child c).node)
