-- Where the disk may have nodes and rough paths: at or below what belongs to a row or is debris.
use Rattle.std.specs.Prelude.{◌≡◌, ◌≤◌, ℕ, true, false, List, ◌++◌, map, filter}
use Rattle.std.specs.List.{Contains}
use Rattle.std.specs.Option.{is_some}
use Rattle.mat_path.specs.Covering.{covering}
use Rattle.mat_path.specs.Names.{is_prefix}
use Rattle.mat_tree.specs.Parts.{Part}
use Rattle.mat_model.specs.declared.book.Row.{Row}
use Rattle.mat_model.specs.Openings.{path_of_row}
use Rattle.mat_model.specs.WorkState.{WorkState, path_of_debris}
use Rattle.model_laws.specs.WorkRules.{is_on_disk}
use Rattle.region_port.specs.Calls.{Paths}

-- the paths at or below which nodes may be: those of rows that stand or are dirty, and of debris
abbrev pub node_places : List Row → WorkState → List (List (List ℕ))
node_places rows work = map path_of_row (filter (is_on_disk work) rows) ++ map path_of_debris work.debris

-- those at or below which rough paths may be: the dirty ones, and those of debris
abbrev pub rough_places : WorkState → List (List (List ℕ))
rough_places work = work.dirty ++ map path_of_debris work.debris

-- each node of the disk is at or below one of some places
abbrev pub AreNodesWithin : List (List (List ℕ)) → Part → Type 0
AreNodesWithin places content = (path : List (List ℕ)) → is_some (content path) ≡ true → 1 ≤ covering path places

-- each rough path of the disk is at or below one of some places
abbrev pub IsRoughWithin : List (List (List ℕ)) → Paths → Type 0
IsRoughWithin places rough = (path : List (List ℕ)) → rough path ≡ true → 1 ≤ covering path places

-- each node of the disk belongs to a row that stands or is dirty, or is debris
abbrev pub IsCovered : List Row → WorkState → Part → Type 0
IsCovered rows work content = AreNodesWithin (node_places rows work) content

-- each rough path of the disk belongs to a dirty row, or is debris
abbrev pub IsRoughCovered : WorkState → Paths → Type 0
IsRoughCovered work rough = IsRoughWithin (rough_places work) rough

-- what is at or below some places is at or below others, but for what is at or below a path
abbrev pub AreKeptAside : List (List ℕ) → List (List (List ℕ)) → List (List (List ℕ)) → Type 0
AreKeptAside place places others = (path : List (List ℕ)) → is_prefix place path ≡ false → 1 ≤ covering path places → 1 ≤ covering path others

-- what is at or below some places is at or below others, but for what is out
abbrev pub AreKeptPlaces : List (List (List ℕ)) → List (List (List ℕ)) → List (List (List ℕ)) → Type 0
AreKeptPlaces lent places others = (path : List (List ℕ)) → ((loan : List (List ℕ)) → Contains lent loan → is_prefix loan path ≡ false) →
    1 ≤ covering path places → 1 ≤ covering path others
