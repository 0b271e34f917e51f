-- The nodes at and below a node of a tree, as a flat list, seen from it.
use Rattle.std.specs.Prelude.{ℕ, Bool, true, ◌&&◌, List, [], ◌∷◌, ◌++◌, map, Option, Some, None}
use Rattle.std.specs.List.{flat_map, list_all}
use Rattle.std.specs.Ordering.{is_lt}
use Rattle.std.specs.declared.cmp.Ordering.{Ordering}
use Rattle.mat_path.specs.Names.{same_name, name_cmp}
use Rattle.mat_tree.specs.declared.flat.Flat.{Flat}
use Rattle.mat_tree.specs.declared.flat.What.{What}
use Rattle.mat_tree.specs.declared.flat.What.TheVariants as what
use Rattle.mat_tree.specs.declared.node.Node.{Node, out-Node}
use Rattle.mat_tree.specs.declared.node.Child.{Child, out-Child}
use Rattle.mat_tree.specs.declared.node.Children.{Children, out-Children}
use Rattle.mat_tree.specs.declared.node.Node.TheOpen as layer
use Rattle.mat_tree.specs.declared.node.Node.TheFolds.{fold-Node, fold-Child, fold-Children}

-- the children of a directory, in order of name
abbrev pub children_list : Children → List Child
children_list children = (out-Children children).list

-- a node below a folder of this name
abbrev pub put_in : List ℕ → Flat → Flat
put_in name node = record { rel = name ∷ node.rel; what = node.what }

-- a node at the root
abbrev pub at_root : What → Flat
at_root w = record { rel = []; what = w }

-- one layer: a node, from the lists of its children
abbrev pub node_step : layer.Node-F (List Flat) (List Flat) (List Flat) → List Flat
node_step (layer.File digest exec) = at_root (what.File digest exec) ∷ []
node_step (layer.Dir children) = at_root what.Dir ∷ children
node_step (layer.Link target) = at_root (what.Link target) ∷ []

-- one layer: a child, from the list of its node
abbrev pub child_step : layer.Child-F (List Flat) (List Flat) (List Flat) → List Flat
child_step child = map (put_in child.name) child.node

-- a list that is one already
abbrev pub itself : List Flat → List Flat
itself nodes = nodes

-- one layer: the children of a directory, from the lists of each
abbrev pub children_step : layer.Children-F (List Flat) (List Flat) (List Flat) → List Flat
children_step children = flat_map itself children.list

-- the flat list of a node
abbrev pub below_node : Node → List Flat
below_node = fold-Node (List Flat) (List Flat) (List Flat) node_step child_step children_step

-- the flat list of a child, seen from its directory
abbrev pub below_child : Child → List Flat
below_child = fold-Child (List Flat) (List Flat) (List Flat) node_step child_step children_step

-- the flat list of a directory without the directory itself
abbrev pub below_children : Children → List Flat
below_children = fold-Children (List Flat) (List Flat) (List Flat) node_step child_step children_step

-- the flat list of some children
abbrev pub below_all : List Child → List Flat
below_all children = flat_map below_child children

-- what a layer is at its root
abbrev pub layer_what : {A A' A'' : Type 0} → layer.Node-F A A' A'' → What
layer_what (layer.File digest exec) = what.File digest exec
layer_what (layer.Dir children) = what.Dir
layer_what (layer.Link target) = what.Link target

-- what a node is
abbrev pub what_node : Node → What
what_node node = layer_what (out-Node node)

-- whether a child has this name
abbrev pub is_named : List ℕ → Child → Bool
is_named name child = same_name name (out-Child child).name

-- how a child's name stands to a name
abbrev pub child_cmp : List ℕ → Child → Ordering
child_cmp name child = name_cmp (out-Child child).name name

-- whether a child comes after a name
abbrev pub is_behind : List ℕ → Child → Bool
is_behind name child = is_lt (name_cmp name (out-Child child).name)

-- whether children stand in strict order of name
abbrev pub are_in_order : List Child → Bool
are_in_order [] = true
are_in_order (child ∷ rest) = list_all (is_behind (out-Child child).name) rest && are_in_order rest

-- a node below a folder at these names
abbrev pub put_under : List (List ℕ) → Flat → Flat
put_under names node = record { rel = names ++ node.rel; what = node.what }

-- a list of nodes below a folder at these names
abbrev pub placed : List (List ℕ) → List Flat → List Flat
placed names nodes = map (put_under names) nodes

-- the flat list of a node, if there is one
abbrev pub found : Option Node → List Flat
found None = []
found (Some node) = below_node node
