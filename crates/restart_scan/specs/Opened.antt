-- What an opening is of kept rows that were read.
use Rattle.std.specs.Prelude.{◌≡◌, ◌≤◌, ℕ, ◌&&◌, Bool, true, not, List, [], ◌∷◌, ◌++◌, map, filter}
use Rattle.std.specs.List.{list_all}
use Rattle.mat_path.specs.Covering.{covering}
use Rattle.mat_path.specs.Names.{overlap}
use Rattle.mat_tree.specs.Trees.{ascends_by, is_placed}
use Rattle.mat_model.specs.declared.opening.Opening.{Opening}
use Rattle.mat_model.specs.Kept.{KeptRow}
use Rattle.mat_model.specs.Openings.{found_rows, is_found, itself, opening_rows}
use Rattle.mat_model.specs.Rows.{comes_before}
use Rattle.model_laws.specs.KeptRules.{path_of_kept}

-- whether a kept row is of the first version
abbrev pub is_old : KeptRow → Bool
is_old kept = not kept.new

-- whether each node of a kept row's tree is at a path
abbrev pub is_kept_placed : KeptRow → Bool
is_kept_placed kept = list_all (is_placed kept.path) kept.tree

-- whether a kept row comes before another one, and doesn't overlap it
abbrev pub is_kept_before : KeptRow → KeptRow → Bool
is_kept_before first second = comes_before first.path second.path && not (overlap first.path second.path)

-- kept rows in strict order of path, of which no two overlap
abbrev pub are_kept_apart : List KeptRow → Bool
are_kept_apart [] = true
are_kept_apart (kept ∷ rest) = list_all (is_kept_before kept) rest && are_kept_apart rest

-- kept rows may be opened: they are in order and apart, and each node of a tree is at a path
pub record AreKept (kept : List KeptRow) : Type 0 where
  pub apart : are_kept_apart kept ≡ true
  pub placed : list_all is_kept_placed kept ≡ true

-- the paths of those of the first version
abbrev pub old_paths : List KeptRow → List (List (List ℕ))
old_paths kept = map path_of_kept (filter is_old kept)

-- an opening has what was found, as rows that stand, the paths of those of the first version, and what was lost and strayed
pub record IsMadeOf (found : List KeptRow) (gone astray : List (List (List ℕ))) (opening : Opening) : Type 0 where
  pub rows : opening.rows ≡ found_rows 0 found
  pub version1 : opening.version1 ≡ old_paths found
  pub lost : opening.lost ≡ gone
  pub strays : opening.strays ≡ astray

-- what was found, lost and strayed is in order and apart
pub record AreReady (found : List KeptRow) (gone astray : List (List (List ℕ))) : Type 0 where
  pub kept : AreKept found
  pub lost : ascends_by itself gone ≡ true
  pub strays : ascends_by itself astray ≡ true
  pub free : (path : List (List ℕ)) → covering path (astray ++ gone ++ map path_of_kept found) ≤ 1

-- an opening is of some kept rows: its rows are those of them that aren't lost
pub record IsOf (kept : List KeptRow) (opening : Opening) : Type 0 where
  pub rows : opening.rows ≡ opening_rows opening.lost kept
  pub version1 : opening.version1 ≡ old_paths (filter (is_found opening.lost) kept)
