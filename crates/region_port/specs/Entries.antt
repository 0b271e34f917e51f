-- A disk in memory, as contracts see it: a list of entries in order of path, each path once, with the node there.
use Rattle.mat_io.specs.Causes.{counted, risen}
use Rattle.std.specs.Prelude.{◌&&◌, ◌||◌, ℕ, Bool, true, false, not, if◌then◌else◌, List, Option, Some, None}
use Rattle.std.specs.List.{list_any}
use Rattle.mat_path.specs.Names.{is_prefix, same_names}
use Rattle.mat_tree.specs.Parts.{Part, Node, folder, file, link}
use Rattle.region_port.specs.Calls.{Paths}
use Rattle.path_trie.specs.declared.entry.Entry.{Entry}
use Rattle.path_trie.specs.Entries.{is_behind, is_next_under, is_under, value_at}
use Rattle.region_port.specs.declared.node.DiskNode.{DiskNode}
use Rattle.region_port.specs.declared.node.DiskNode.TheVariants as kept
use Rattle.region_port.specs.declared.counts.Counts.{Counts}
use Rattle.mat_io.specs.Watches.{Watch}

-- the node that an entry keeps
abbrev pub node_kept : DiskNode → Node
node_kept kept.Dir = folder
node_kept (kept.File bytes exec) = file bytes exec
node_kept (kept.Link target) = link target

-- a path and what is kept there: a node, or nothing where a part begins that is lent
abbrev pub Kept : Type 0
Kept = Entry (Option DiskNode)

-- the node that is kept at a path, if one is
abbrev pub node_at : Option (Option DiskNode) → Option Node
node_at None = None
node_at (Some None) = None
node_at (Some (Some node)) = Some (node_kept node)

-- what a list of entries has at each path
abbrev pub content_of : List Kept → Part
content_of entries path = node_at (value_at path entries)

-- the paths of a list
abbrev pub paths_of : List (List (List ℕ)) → Paths
paths_of list path = list_any (same_names path) list

-- the paths of a list, and one more where the flag is set
abbrev pub rough_paths : Bool → List (List ℕ) → List (List (List ℕ)) → Paths
rough_paths whole place list path = (whole && same_names path place) || paths_of list path

-- whether something at a path of its own is at or below a path
abbrev pub is_within : {X : Type 0} → (X → List (List ℕ)) → List (List ℕ) → X → Bool
is_within place path x = is_prefix path (place x)

-- whether it is not
abbrev pub is_outside : {X : Type 0} → (X → List (List ℕ)) → List (List ℕ) → X → Bool
is_outside place path x = not (is_prefix path (place x))

-- whether an entry is at or below a path, and comes behind another one, if one is given
abbrev pub is_later_under : List (List ℕ) → Option (List (List ℕ)) → Kept → Bool
is_later_under path None entry = is_under path entry
is_later_under path (Some last) entry = is_next_under path last entry

-- whether an entry comes behind a path, if one is given
abbrev pub is_later : Option (List (List ℕ)) → Kept → Bool
is_later None entry = true
is_later (Some last) entry = is_behind last entry

-- the counts of a device that nobody has called yet
abbrev pub no_counts : Counts
no_counts = record { calls = 0; faults = 0; armed = false }

-- the counts of a disk once a region came back with its own
abbrev pub joined_counts : Counts → Counts → Counts
joined_counts counts more =
    record { calls = counted counts.calls more.calls; faults = counted counts.faults more.faults; armed = counts.armed }

-- the counts of a device in memory once a call began: an armed one makes it a fault
abbrev pub entered : Counts → Counts
entered counts =
    record { calls = risen counts.calls; faults = if counts.armed then risen counts.faults else counts.faults; armed = false }

-- what a device in memory tells by its counts
abbrev pub watch_of : Counts → Watch
watch_of counts = record { calls = counts.calls; armed = counts.armed }
