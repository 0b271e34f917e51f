-- What a daemon begins with: the kept rows that aren't lost, as standing rows, and what the disk has beside them.
use Rattle.std.specs.Prelude.{◌≡◌, ◌≤◌, ℕ, ◌+◌, ◌==◌, ◌&&◌, max, Bool, true, false, not, List, [], ◌∷◌, ◌++◌, length, map, filter, None}
use Rattle.std.specs.List.{All, list_all, list_any}
use Rattle.mat_path.specs.Covering.{covering}
use Rattle.mat_path.specs.Names.{same_names}
use Rattle.mat_tree.specs.Sums.{sum_of}
use Rattle.mat_tree.specs.Trees.{ascends_by, is_placed}
use Rattle.mat_model.specs.declared.book.Book.{Book}
use Rattle.mat_model.specs.declared.book.Row.{Row}
use Rattle.mat_model.specs.declared.opening.Opening.{Opening}
use Rattle.mat_model.specs.Books.{IsSummed}
use Rattle.mat_model.specs.Kept.{KeptRow, kept_as}
use Rattle.mat_model.specs.Rows.{are_apart, is_standing}
use Rattle.mat_model.specs.WorkState.{Debris, put_debris}

-- ---- the rows of an opening

-- whether a kept row is lost: its path is among those whose part of the disk hasn't the kept tree
abbrev pub is_lost : List (List (List ℕ)) → KeptRow → Bool
is_lost lost kept = list_any (same_names kept.path) lost

abbrev pub is_found : List (List (List ℕ)) → KeptRow → Bool
is_found lost kept = not (is_lost lost kept)

-- a kept row as a row that stands, under a stamp
abbrev pub found_row : ℕ → KeptRow → Row
found_row stamp kept =
    record { path = kept.path; tree = kept.tree; sum = sum_of kept.tree; stamp = stamp; stands = true; last = kept.last }

-- kept rows as rows that stand, under the stamps from one on
abbrev pub found_rows : ℕ → List KeptRow → List Row
found_rows stamp [] = []
found_rows stamp (kept ∷ rest) = found_row stamp kept ∷ found_rows (stamp + 1) rest

-- the rows of an opening: the kept ones that aren't lost, all standing, under the stamps 0, 1, 2 and on
abbrev pub opening_rows : List (List (List ℕ)) → List KeptRow → List Row
opening_rows lost kept = found_rows 0 (filter (is_found lost) kept)

-- ---- the book and the debris of an opening

-- the greatest last use of some rows, or 0
abbrev pub latest_use : List Row → ℕ
latest_use [] = 0
latest_use (row ∷ rows) = max row.last (latest_use rows)

-- the book that an opening recovers: its rows, and nothing else
abbrev pub recovered : Opening → Book
recovered opening = record {
  first = length opening.rows;
  now = latest_use opening.rows;
  state = None;
  live = [];
  waiting = [];
  soft = [];
  rows = opening.rows;
  holds = [];
  tickets = [];
}

-- some paths as debris that isn't condemned, each put in its place
abbrev pub stray_debris : List (List ℕ) → Debris
stray_debris path = record { path = path; condemned = false }

abbrev pub put_strays : List (List (List ℕ)) → List Debris → List Debris
put_strays [] debris = debris
put_strays (path ∷ paths) debris = put_debris (stray_debris path) (put_strays paths debris)

-- the debris of an opening: the lost paths and the strays, in path order
abbrev pub opening_debris : Opening → List Debris
opening_debris opening = put_strays opening.lost (map stray_debris opening.strays)

-- whether a row of an opening is stored in the first version of the bytes
abbrev pub is_version1 : Opening → Row → Bool
is_version1 opening row = list_any (same_names row.path) opening.version1

-- a row of an opening as it is stored
abbrev pub kept_at_opening : Opening → Row → KeptRow
kept_at_opening opening row = kept_as (not (is_version1 opening row)) row

-- ---- an opening is right

-- whether each node of a row's tree is at a path
abbrev pub is_row_placed : Row → Bool
is_row_placed row = list_all (is_placed row.path) row.tree

-- whether rows have the stamps from one on
abbrev pub are_stamped : ℕ → List Row → Bool
are_stamped stamp [] = true
are_stamped stamp (row ∷ rows) = (row.stamp == stamp) && are_stamped (stamp + 1) rows

abbrev pub path_of_row : Row → List (List ℕ)
path_of_row row = row.path

-- a path by itself
abbrev pub itself : List (List ℕ) → List (List ℕ)
itself path = path

-- whether some row is at a path
abbrev pub is_row_at : List Row → List (List ℕ) → Bool
is_row_at rows path = list_any (λ (row : Row). same_names row.path path) rows

-- an opening is right
pub record IsOpening (opening : Opening) : Type 0 where
  -- its rows are in strict order of path, and no two of them overlap
  pub apart : are_apart opening.rows ≡ true
  -- each of them stands
  pub standing : list_all is_standing opening.rows ≡ true
  -- their stamps are 0, 1, 2 and on
  pub stamped : are_stamped 0 opening.rows ≡ true
  -- each row's sum is the sum of its tree
  pub sums : All IsSummed opening.rows
  -- each node of a row's tree is at a path
  pub placed : list_all is_row_placed opening.rows ≡ true
  -- the rows of the first version ascend, and are rows
  pub old : ascends_by itself opening.version1 ≡ true
  pub named : list_all (is_row_at opening.rows) opening.version1 ≡ true
  -- the strays ascend, and so do the lost paths
  pub strays : ascends_by itself opening.strays ≡ true
  pub lost : ascends_by itself opening.lost ≡ true
  -- strays, lost paths and rows are apart from one another
  pub free : (path : List (List ℕ)) → covering path (opening.strays ++ opening.lost ++ map path_of_row opening.rows) ≤ 1
