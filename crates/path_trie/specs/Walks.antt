-- What is told of entries on a walk.
use Rattle.std.specs.Prelude.{◌≡◌, ◌<◌, ℕ, suc, ◌+◌, List, ◌++◌, length, map, take, drop, slice_index_or as get_or, Option}
use Rattle.std.specs.List.{find}
use Rattle.std.specs.Option.{option_map}
use Rattle.path_trie.specs.declared.entry.Entry.{Entry}
use Rattle.path_trie.specs.declared.node.Edge.{Edge, out-Edge}
use Rattle.path_trie.specs.Entries.{is_under, value_of, without_first}
use Rattle.path_trie.specs.Nodes.{below_all, below_node, edge_name, put_in}

-- the number of an entry's names, behind some others, and its value
abbrev pub counted_from : {T : Type 0} → ℕ → Entry T → ℕ × T
counted_from depth entry = (depth + length entry.path, entry.value)

-- the path that is kept with a value
abbrev pub kept_path : {V : Type 0} → Entry (Entry V) → List (List ℕ)
kept_path entry = entry.value.path

-- where the k-th entry of all stands: below which child, and at which place there
pub record IsAmong {T : Type 0} (edges : List (Edge T)) (k place left : ℕ) : Type 0 where
  pub within : place < length edges
  pub behind : k ≡ length (below_all (take place edges)) + left
  pub below : (child : Edge T) → child ≡ get_or edges place child → left < length (below_node (out-Edge T child).node)

-- what is left where the first entry at or below some names was taken from the child at a place
abbrev pub IsPulled : {T : Type 0} → ℕ → List (List ℕ) → List (Edge T) → List (Edge T) → Type 0
IsPulled {T} place names old new = (edge : Edge T) → edge ≡ get_or old place edge →
    below_all new ≡ below_all (take place old) ++ (map (put_in (edge_name edge)) (without_first (is_under names) (below_node (out-Edge T edge).node)) ++ below_all (drop (suc place) old))

-- what is given there
abbrev pub GivesFirst : {T : Type 0} → ℕ → List (List ℕ) → List (Edge T) → Option T → Type 0
GivesFirst {T} place names old given = (edge : Edge T) → edge ≡ get_or old place edge → given ≡ option_map value_of (find (is_under names) (below_node (out-Edge T edge).node))
