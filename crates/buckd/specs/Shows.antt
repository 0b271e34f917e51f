-- What is shown of a disk.
use Rattle.std.specs.Prelude.{◌≡◌, ℕ, Bool, true, false, List, ◌++◌, Option, None}
use Rattle.std.specs.List.{filter_map, flat_map, list_all, list_any}
use Rattle.std.specs.Option.{option_map}
use Rattle.mat_tree.specs.Parts.{Part}
use Rattle.mat_tree.specs.Trees.{ascends as is_tree_order}
use Rattle.mat_tree.specs.declared.flat.Flat.{Flat}
use Rattle.mat_tree.specs.declared.flat.What.{What}
use Rattle.mat_model.specs.declared.book.Row.{Row}
use Rattle.mat_model.specs.Rows.{covers, seen_of}
use Rattle.buckd.specs.Making.{Nodes}

-- what a disk has where a node of a row lies below a path, with the node's rel from there
abbrev pub at_rel_of : Flat → What → Flat
at_rel_of node there = record { rel = node.rel; what = there }

abbrev pub node_there : List (List ℕ) → Nodes → Flat → Option Flat
node_there path disk node = option_map (at_rel_of node) (disk (path ++ node.rel))

-- the nodes at and below a path that a disk has, where rows cover them, in path order
abbrev pub nodes_there : List (List ℕ) → List Row → Nodes → List Flat
nodes_there path rows disk = filter_map (node_there path disk) (flat_map (seen_of path) rows)

-- a disk has a node only where a row covers it
abbrev pub IsCovered : Part → List Row → Type 0
IsCovered content rows = (place : List (List ℕ)) → list_any (covers place) rows ≡ false → content place ≡ None

-- the trees of some rows are in order
abbrev pub is_ordered : Row → Bool
is_ordered row = is_tree_order row.tree

abbrev pub AreOrdered : List Row → Type 0
AreOrdered rows = list_all is_ordered rows ≡ true
