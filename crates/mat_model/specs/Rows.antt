-- The rows of a book: which one covers a path, and how they stand in order.
use Rattle.std.specs.Prelude.{ℕ, ◌&&◌, Bool, true, not, if◌then◌else◌, List, [], ◌∷◌, ◌++◌, length, drop, map, find, Option}
use Rattle.std.specs.List.{list_all, filter_map}
use Rattle.std.specs.Option.{option_map}
use Rattle.std.specs.Ordering.{is_lt}
use Rattle.mat_path.specs.Names.{same_names, is_prefix, overlap, path_cmp, rest_below}
use Rattle.mat_tree.specs.declared.flat.Flat.{Flat}
use Rattle.mat_tree.specs.Trees.{has_node}
use Rattle.mat_model.specs.declared.book.Row.{Row}

-- whether one path comes before another
abbrev pub comes_before : List (List ℕ) → List (List ℕ) → Bool
comes_before p q = is_lt (path_cmp p q)

-- whether a row is at exactly a path
abbrev pub is_at_path : List (List ℕ) → Row → Bool
is_at_path path row = same_names row.path path

-- whether a row and a path overlap
abbrev pub overlaps_row : List (List ℕ) → Row → Bool
overlaps_row path row = overlap row.path path

-- whether a row and a path don't overlap
abbrev pub is_clear_of : List (List ℕ) → Row → Bool
is_clear_of path row = not (overlaps_row path row)

-- whether a row covers a path: its path is a prefix of it, and its tree has a node at the rest
abbrev pub covers : List (List ℕ) → Row → Bool
covers path row = is_prefix row.path path && has_node row.tree (drop (length row.path) path)

-- the row that covers a path
abbrev pub cover : List Row → List (List ℕ) → Option Row
cover rows path = find (covers path) rows

-- whether a row stands
abbrev pub is_standing : Row → Bool
is_standing row = row.stands

-- whether a row comes after a path
abbrev pub comes_after : List (List ℕ) → Row → Bool
comes_after path row = comes_before path row.path

-- a row in its place, before the first one that comes after it
abbrev pub put_row : Row → List Row → List Row
put_row new [] = new ∷ []
put_row new (row ∷ rows) = if comes_before new.path row.path then new ∷ row ∷ rows else row ∷ put_row new rows

-- a row whose last use is at a moment, if it is at the path
abbrev pub used_row : List (List ℕ) → ℕ → Row → Row
used_row path moment row = if is_at_path path row then record row { last = moment } else row

-- the rows after a use of the one at a path
abbrev pub used : List (List ℕ) → ℕ → List Row → List Row
used path moment rows = map (used_row path moment) rows

-- a row that stands, if it is at the path
abbrev pub standing_row : List (List ℕ) → Row → Row
standing_row path row = if is_at_path path row then record row { stands = true } else row

-- whether two rows are in order and don't overlap
abbrev pub is_apart : Row → Row → Bool
is_apart first second = comes_before first.path second.path && not (overlap first.path second.path)

-- rows in strict order of path, of which no two overlap
abbrev pub are_apart : List Row → Bool
are_apart [] = true
are_apart (row ∷ rows) = list_all (is_apart row) rows && are_apart rows

-- a node with another rel
abbrev pub at_rel : Flat → List (List ℕ) → Flat
at_rel node rel = record { rel = rel; what = node.what }

-- a node of a row's tree as it lies below a path, if it does
abbrev pub seen_node : List (List ℕ) → List (List ℕ) → Flat → Option Flat
seen_node path root node = option_map (at_rel node) (rest_below path (root ++ node.rel))

-- the nodes of a row that lie at and below a path, with rels from there
abbrev pub seen_of : List (List ℕ) → Row → List Flat
seen_of path row = filter_map (seen_node path row.path) row.tree
