-- The entries of a trie, from its root.
use Rattle.std.specs.Prelude.{◌≡◌, ℕ, Bool, true, List, map, if◌then◌else◌, Option, Some, None, Result, Ok, Err}
use Rattle.std.specs.Option.{option_map}
use Rattle.std.specs.List.{list_all}
use Rattle.mat_path.specs.Names.{same_names}
use Rattle.path_trie.specs.declared.entry.Entry.{Entry}
use Rattle.path_trie.specs.declared.node.Node.{Node}
use Rattle.path_trie.specs.Entries.{ascends, put, value_of}
use Rattle.path_trie.specs.Nodes.{below_node, is_well}

-- an entry at its place, from what is kept there
abbrev pub shown : {V : Type 0} → Entry (Entry V) → Entry V
shown entry = record { path = entry.path; value = entry.value.value }

-- whether what is kept at a place has the path of the place
abbrev pub is_placed : {V : Type 0} → Entry (Entry V) → Bool
is_placed entry = same_names entry.value.path entry.path

-- the entries of a trie
abbrev pub shown_all : {V : Type 0} → Node (Entry V) → List (Entry V)
shown_all root = map shown (below_node root)

-- what a trie keeps
pub record IsTrie {V : Type 0} (root : Node (Entry V)) : Type 0 where
  pub well : is_well root ≡ true
  pub placed : list_all is_placed (below_node root) ≡ true
  pub ascending : ascends (below_node root) ≡ true

-- what a put answers, by the values alone
abbrev pub value_put : {V : Type 0} → Result (Option (Entry V)) (Entry V) → Result (Option V) V
value_put (Ok old) = Ok (option_map value_of old)
value_put (Err entry) = Err entry.value

-- what is there, if it passes a test
abbrev pub kept_if : {X : Type 0} → (X → Bool) → Option X → Option X
kept_if test None = None
kept_if test (Some x) = if test x then Some x else None

-- the entries with another value in what is kept at a path, if something is kept there
abbrev pub with_value : {V : Type 0} → Option (Entry V) → List (List ℕ) → V → List (Entry (Entry V)) → List (Entry (Entry V))
with_value None path value entries = entries
with_value (Some kept) path value entries = put path (record { path = kept.path; value = value }) entries

-- what is kept at a place with another value, if something is kept there
abbrev pub own_with : {V : Type 0} → Option (Entry V) → V → Option (Entry V)
own_with None value = None
own_with (Some kept) value = Some (record { path = kept.path; value = value })
