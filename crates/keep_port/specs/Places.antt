-- The rows of a state store, path by path.
use Rattle.std.specs.Prelude.{ℕ, Bool, List, Option}
use Rattle.std.specs.List.{find, list_any}
use Rattle.mat_path.specs.Names.{joined, same_name}
use Rattle.keep_port.specs.declared.row.RawRow.{RawRow}
use Rattle.keep_port.specs.declared.row.Touch.{Touch}

-- whether a row stands at a path
abbrev pub stands_at : List ℕ → RawRow → Bool
stands_at path row = same_name row.path path

-- the row at a path, if there is one
abbrev pub row_at : List ℕ → List RawRow → Option RawRow
row_at path rows = find (stands_at path) rows

-- whether some rows name a path
abbrev pub is_stored : List ℕ → List RawRow → Bool
is_stored path rows = list_any (stands_at path) rows

-- whether a new last use is of the row at a path, and whether one of some is
abbrev pub touches_at : List ℕ → Touch → Bool
touches_at path touch = same_name (joined touch.path) path

abbrev pub is_touched : List ℕ → List Touch → Bool
is_touched path touches = list_any (touches_at path) touches

-- whether some paths to be removed name a path
abbrev pub is_same : List ℕ → List (List ℕ) → Bool
is_same path names = same_name (joined names) path

abbrev pub is_removed : List ℕ → List (List (List ℕ)) → Bool
is_removed path paths = list_any (is_same path) paths
