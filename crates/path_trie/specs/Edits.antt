-- Entries whose values are changed where they stand.
use Rattle.std.specs.Prelude.{◌≡◌, ℕ, List, map, Option, Some, None}
use Rattle.path_trie.specs.declared.entry.Entry.{Entry}
use Rattle.path_trie.specs.declared.node.Edge.{Edge, out-Edge}
use Rattle.path_trie.specs.Nodes.{below_node, edge_name, is_well_edge}

-- an entry with what a change makes of its value
abbrev pub edited_entry : {V : Type 0} → (List (List ℕ) → V → V) → Entry V → Entry V
edited_entry change entry = record { path = entry.path; value = change entry.path entry.value }

-- what is kept at a place, with what a change makes of its value
abbrev pub edited_kept : {V : Type 0} → (List (List ℕ) → V → V) → Entry (Entry V) → Entry (Entry V)
edited_kept change entry = record { path = entry.path; value = edited_entry change entry.value }

-- the same at a node itself, if something stands there
abbrev pub edited_own : {V : Type 0} → (List (List ℕ) → V → V) → Option (Entry V) → Option (Entry V)
edited_own change None = None
edited_own change (Some kept) = Some (edited_entry change kept)

-- a child whose values are changed: it has its name, and is as a child should be if it was
pub record IsEdited {V : Type 0} (change : List (List ℕ) → V → V) (old new : Edge (Entry V)) : Type 0 where
  pub name : edge_name new ≡ edge_name old
  pub list : below_node (out-Edge (Entry V) new).node ≡ map (edited_kept change) (below_node (out-Edge (Entry V) old).node)
  pub well : is_well_edge new ≡ is_well_edge old
