-- What a part of a disk has, and when it has a tree.
use Rattle.std.specs.Prelude.{◌≡◌, ℕ, Bool, if◌then◌else◌, List, ◌++◌, length, drop, Option, Some, None}
use Rattle.std.specs.Option.{option_map}
use Rattle.mat_digest.specs.Digests.{digest_of}
use Rattle.mat_path.specs.Names.{is_prefix, same_names}
use Rattle.mat_tree.specs.declared.flat.Flat.{Flat}
use Rattle.mat_tree.specs.declared.flat.What.{What}
use Rattle.mat_tree.specs.declared.flat.What.TheVariants as what
use Rattle.mat_tree.specs.Trees.{what_at}

-- a node of a disk: a directory, a file with its bytes and whether it is executable, or a link with its target
pub data Node : Type 0 where
  folder : Node
  file : List ℕ → Bool → Node
  link : List ℕ → Node

-- a part of a disk: what stands at each rel, if a node does; a whole disk is such a part, from its root
abbrev pub Part : Type 0
Part = List (List ℕ) → Option Node

-- what a tree has where the disk has this node
abbrev pub declared_by : Node → What
declared_by folder = what.Dir
declared_by (file bytes exec) = what.File (digest_of bytes) exec
declared_by (link target) = what.Link target

-- a part has a tree: at each rel it has what the tree has there, and nothing else
abbrev pub HasTree : Part → List Flat → Type 0
HasTree part tree = (rel : List (List ℕ)) → option_map declared_by (part rel) ≡ what_at tree rel

-- nothing
abbrev pub bare : Part
bare rel = None

-- what a part has at and below a path
abbrev pub below : List (List ℕ) → Part → Part
below path part rel = part (path ++ rel)

-- a part without what it has at and below a path
abbrev pub without : List (List ℕ) → Part → Part
without path part place = if is_prefix path place then None else part place

-- a part with another one in the place of what it has at and below a path
abbrev pub replaced : List (List ℕ) → Part → Part → Part
replaced path inner part place = if is_prefix path place then inner (drop (length path) place) else part place

-- a part with this node at a rel
abbrev pub with_node : List (List ℕ) → Node → Part → Part
with_node rel node part place = if same_names place rel then Some node else part place
