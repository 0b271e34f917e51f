-- What a crash leaves of a disk in memory.
use Rattle.std.specs.Prelude.{◌≡◌, ◌/◌, ℕ, Bool, true, false, if◌then◌else◌, List, length, take, Option, None}
use Rattle.std.specs.List.{list_any}
use Rattle.std.specs.Option.{option_map}
use Rattle.mat_path.specs.Names.{is_prefix}
use Rattle.mat_tree.specs.Parts.{Node, Part, file, folder, link}
use Rattle.region_port.specs.Calls.{Paths}
use Rattle.region_port.specs.declared.node.DiskNode.{DiskNode}
use Rattle.region_port.specs.declared.node.DiskNode.TheVariants as kept
use Rattle.region_port.specs.declared.crash.Rest.{Rest}
use Rattle.region_port.specs.declared.crash.Rest.TheVariants as rest

-- a file with the first half of its bytes, rounded down; a folder and a link stay as they are
abbrev pub torn : Node → Node
torn folder = folder
torn (file bytes exec) = file (take (length bytes / 2) bytes) exec
torn (link target) = link target

-- what is left of a node at or below a rough path
abbrev pub left : Rest → Option Node → Option Node
left rest.Nothing was = None
left rest.Whole was = was
left rest.Torn was = option_map torn was

-- a crash leaves what is at or below no rough path, and of what is at or below one the rest that was called for
pub record Crashes (rest : Rest) (rough : Paths) (before now : Part) : Type 0 where
  pub spared : (path : List (List ℕ)) → ((above : List (List ℕ)) → is_prefix above path ≡ true → rough above ≡ false) → now path ≡ before path
  pub hit : (path above : List (List ℕ)) → rough above ≡ true → is_prefix above path ≡ true → now path ≡ left rest (before path)

-- ---- the same of the entries of a disk in memory

-- whether a path is at or above another
abbrev pub is_above : List (List ℕ) → List (List ℕ) → Bool
is_above path above = is_prefix above path

-- what is left of a node, by whether a rough path is at or above it
abbrev pub left_where : Bool → Rest → Option Node → Option Node
left_where at_rough rest was = if at_rough then left rest was else was

-- a node as it is kept, torn
abbrev pub torn_kept : DiskNode → DiskNode
torn_kept kept.Dir = kept.Dir
torn_kept (kept.File bytes exec) = kept.File (take (length bytes / 2) bytes) exec
torn_kept (kept.Link target) = kept.Link target

-- what is kept at a path, torn where one of some paths is at or above it
abbrev pub torn_where : List (List (List ℕ)) → List (List ℕ) → Option DiskNode → Option DiskNode
torn_where rough path was = if list_any (is_above path) rough then option_map torn_kept was else was
