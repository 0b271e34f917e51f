-- The strays of a disk: the topmost nodes that are apart from all known paths.
use Rattle.std.specs.Prelude.{◌≡◌, ◌≤◌, ◌-◌, ◌&&◌, ◌++◌, ℕ, Bool, true, false, not, List, length, Option, Some, None}
use Rattle.std.specs.List.{list_any, slice_get}
use Rattle.std.specs.List.Sorted.{IsStrictlySortedBy}
use Rattle.std.specs.Option.{is_some}
use Rattle.mat_path.specs.Covering.{covering}
use Rattle.mat_path.specs.Names.{is_prefix, overlap, path_cmp, same_names}
use Rattle.mat_tree.specs.Parts.{Part}
use Rattle.path_trie.specs.declared.entry.Entry.{Entry}
use Rattle.path_trie.specs.Entries.{overlaps}
use Rattle.region_port.specs.Calls.{Paths}
use Rattle.region_port.specs.declared.strays.Strays.{Strays}
use Rattle.region_port.specs.declared.strays.Strays.TheVariants as strays

-- whether a path overlaps none of some
abbrev pub is_apart : List (List (List ℕ)) → List (List ℕ) → Bool
is_apart known path = not (list_any (overlap path) known)

-- the paths of the nodes that overlap no known path
abbrev pub candidates : List (List (List ℕ)) → Part → Paths
candidates known content path = is_some (content path) && is_apart known path

-- whether a path is another one's prefix, and not that path itself
abbrev pub is_strictly_above : List (List ℕ) → List (List ℕ) → Bool
is_strictly_above above path = is_prefix above path && not (same_names above path)

-- a path of a set that has none of the set strictly above it
pub record IsTopmost (set : Paths) (path : List (List ℕ)) : Type 0 where
  pub within : set path ≡ true
  pub alone : (above : List (List ℕ)) → is_strictly_above above path ≡ true → set above ≡ false

-- a list has just the topmost paths of a set
pub record AreTopmost (set : Paths) (found : List (List (List ℕ))) : Type 0 where
  pub only : (path : List (List ℕ)) → list_any (same_names path) found ≡ true → IsTopmost set path
  pub all : (path : List (List ℕ)) → IsTopmost set path → list_any (same_names path) found ≡ true

-- where the disk tells what it has, the found paths are the topmost candidates
abbrev pub AreTold : List (List (List ℕ)) → Option Part → List (List (List ℕ)) → Type 0
AreTold known None found = Unit {0}
AreTold known (Some content) found = AreTopmost (candidates known content) found

-- found paths stand in strict path order, and overlap neither one another nor a known path
pub record AreFound (known : List (List (List ℕ))) (content : Option Part) (found : List (List (List ℕ))) : Type 0 where
  pub ordered : IsStrictlySortedBy path_cmp found
  pub apart : (path : List (List ℕ)) → covering path (found ++ known) ≤ 1
  pub told : AreTold known content found

-- what a search for strays answers
abbrev pub Finds : List (List (List ℕ)) → Option Part → Strays → Type 0
Finds known content (strays.Found found) = AreFound known content found
Finds known content strays.Failed = Unit {0}
Finds known content strays.NoMemory = Unit {0}

-- whether the search failed
abbrev pub strays_failed : Strays → Bool
strays_failed (strays.Found found) = false
strays_failed strays.Failed = true
strays_failed strays.NoMemory = false

-- ---- how a disk in memory finds them

-- whether a path overlaps none of a map
abbrev pub is_clear : List (Entry (Unit {0})) → List (List ℕ) → Bool
is_clear known path = not (list_any (overlaps path) known)

-- found paths in strict order, none at or below another: each is one of some paths, and each of those is at or below one
pub record Gathers (paths found : List (List (List ℕ))) : Type 0 where
  pub ordered : IsStrictlySortedBy path_cmp found
  pub apart : (path : List (List ℕ)) → covering path found ≤ 1
  pub within : (path : List (List ℕ)) → list_any (same_names path) found ≡ true → list_any (same_names path) paths ≡ true
  pub covered : (path : List (List ℕ)) → list_any (same_names path) paths ≡ true → 1 ≤ covering path found

-- whether a path is at or below another, if there is one
abbrev pub is_below_some : List (List ℕ) → Option (List (List ℕ)) → Bool
is_below_some path None = false
is_below_some path (Some above) = is_prefix above path

-- whether a path is at or below the last of some
abbrev pub is_below_last : List (List (List ℕ)) → List (List ℕ) → Bool
is_below_last found path = is_below_some path (slice_get found (length found - 1))
