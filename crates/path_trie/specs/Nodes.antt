-- What stands at and below a node of a trie, seen from it, and what a node keeps.
use Rattle.std.specs.Prelude.{ℕ, nat_eq, Bool, true, false, ◌&&◌, List, [], ◌∷◌, ◌++◌, length, map, Option, Some, None}
use Rattle.std.specs.List.{flat_map, list_all}
use Rattle.std.specs.Ordering.{is_lt}
use Rattle.mat_path.specs.Names.{name_cmp}
use Rattle.path_trie.specs.declared.entry.Entry.{Entry}
use Rattle.path_trie.specs.Entries.{are_in_turn}
use Rattle.path_trie.specs.declared.node.Node.{Node, out-Node}
use Rattle.path_trie.specs.declared.node.Edge.{Edge, out-Edge}
use Rattle.path_trie.specs.declared.node.Edge.TheOpen as layer
use Rattle.path_trie.specs.declared.node.Edge.TheFolds.{fold-Node, fold-Edge}

-- what is told of a node: its entries, and whether it is as a node should be
pub record Told (T : Type 0) : Type 0 where
  pub entries : List (Entry T)
  pub well : Bool

-- what is told of a child: its name, its entries as its parent sees them, and whether it is as a child should be
pub record ToldEdge (T : Type 0) : Type 0 where
  pub name : List ℕ
  pub entries : List (Entry T)
  pub well : Bool

-- what stands at a node itself
abbrev pub own : {T : Type 0} → Option T → List (Entry T)
own None = []
own (Some value) = record { path = []; value = value } ∷ []

-- an entry below a folder of this name
abbrev pub put_in : {T : Type 0} → List ℕ → Entry T → Entry T
put_in name entry = record { path = name ∷ entry.path; value = entry.value }

-- whether a list has an element
abbrev pub has_some : {X : Type 0} → List X → Bool
has_some [] = false
has_some (x ∷ xs) = true

-- whether a name comes behind another
abbrev pub comes_behind : List ℕ → List ℕ → Bool
comes_behind name other = is_lt (name_cmp name other)

-- whether a name comes before another
abbrev pub comes_before : List ℕ → List ℕ → Bool
comes_before name other = is_lt (name_cmp other name)

-- whether names stand in strict order
abbrev pub are_in_order : List (List ℕ) → Bool
are_in_order names = are_in_turn comes_behind names

abbrev pub told_entries : {T : Type 0} → ToldEdge T → List (Entry T)
told_entries edge = edge.entries

abbrev pub told_name : {T : Type 0} → ToldEdge T → List ℕ
told_name edge = edge.name

abbrev pub told_well : {T : Type 0} → ToldEdge T → Bool
told_well edge = edge.well

-- one layer: a child, from what is told of its node; something stands at or below it
abbrev pub edge_step : {T : Type 0} → layer.Edge-F T (ToldEdge T) (Told T) → ToldEdge T
edge_step edge = record {
  name = edge.name;
  entries = map (put_in edge.name) edge.node.entries;
  well = has_some edge.node.entries && edge.node.well;
}

-- the entries of a node, from what is told of its children
abbrev pub step_entries : {T : Type 0} → layer.Node-F T (ToldEdge T) (Told T) → List (Entry T)
step_entries node = own node.value ++ flat_map told_entries node.edges.items

-- one layer: a node, from what is told of its children, which stand in strict order of name; it has the number of its entries
abbrev pub node_step : {T : Type 0} → layer.Node-F T (ToldEdge T) (Told T) → Told T
node_step node = record {
  entries = step_entries node;
  well = nat_eq node.count (length (step_entries node)) && (are_in_order (map told_name node.edges.items) && list_all told_well node.edges.items);
}

-- what is told of a node
abbrev pub tell_node : {T : Type 0} → Node T → Told T
tell_node {T} = fold-Node T (ToldEdge T) (Told T) edge_step node_step

-- what is told of a child
abbrev pub tell_edge : {T : Type 0} → Edge T → ToldEdge T
tell_edge {T} = fold-Edge T (ToldEdge T) (Told T) edge_step node_step

-- the entries at and below a node, seen from it
abbrev pub below_node : {T : Type 0} → Node T → List (Entry T)
below_node node = (tell_node node).entries

-- whether children stand in strict order of name at and below a node, something stands at or below each of them, and each node there has the number
-- of its entries
abbrev pub is_well : {T : Type 0} → Node T → Bool
is_well node = (tell_node node).well

-- the entries of a child, seen from its node
abbrev pub below_edge : {T : Type 0} → Edge T → List (Entry T)
below_edge edge = (tell_edge edge).entries

-- whether something stands at or below a child, which is as a node should be
abbrev pub is_well_edge : {T : Type 0} → Edge T → Bool
is_well_edge edge = (tell_edge edge).well

-- the entries of some children
abbrev pub below_all : {T : Type 0} → List (Edge T) → List (Entry T)
below_all edges = flat_map below_edge edges

-- the name of a child
abbrev pub edge_name : {T : Type 0} → Edge T → List ℕ
edge_name {T} edge = (out-Edge T edge).name

-- how many entries a node keeps that it has
abbrev pub node_count : {T : Type 0} → Node T → ℕ
node_count {T} node = (out-Node T node).count

-- whether children are as those of a node should be
abbrev pub are_well : {T : Type 0} → List (Edge T) → Bool
are_well edges = are_in_order (map edge_name edges) && list_all is_well_edge edges
