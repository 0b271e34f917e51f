-- Debris in path order, of which no two pieces overlap, and the spare room of a list of it.
use Rattle.std.specs.Prelude.{◌≡◌, ◌<◌, ◌≤◌, ℕ, length, take, slice_index_or, Bool, true, not, ◌&&◌, ◌||◌, if◌then◌else◌, List, [], ◌∷◌}
use Rattle.std.specs.List.{list_all}
use Rattle.mat_path.specs.Names.{is_prefix, overlap, same_names}
use Rattle.mat_model.specs.Rows.{comes_before}
use Rattle.mat_model.specs.WorkState.{Debris}

-- a list of debris, and for how many more pieces there is room
pub record Pieces : Type 0 where
  pub list : List Debris
  pub spare : ℕ

-- whether two pieces of debris are in order and don't overlap
abbrev pub is_apart : Debris → Debris → Bool
is_apart first second = comes_before first.path second.path && not (overlap first.path second.path)

-- debris in strict order of path, of which no two pieces overlap
abbrev pub are_apart : List Debris → Bool
are_apart [] = true
are_apart (debris ∷ rest) = list_all (is_apart debris) rest && are_apart rest

-- whether debris overlaps a path
abbrev pub overlaps_debris : List (List ℕ) → Debris → Bool
overlaps_debris path debris = overlap debris.path path

-- whether debris is at a path
abbrev pub is_at : List (List ℕ) → Debris → Bool
is_at path debris = same_names debris.path path

-- whether debris comes before a path, and whether it comes behind it
abbrev pub is_before : List (List ℕ) → Debris → Bool
is_before path debris = comes_before debris.path path

abbrev pub is_behind : List (List ℕ) → Debris → Bool
is_behind path debris = comes_before path debris.path

-- whether debris comes before a path, or is at or below it
abbrev pub is_up_to : List (List ℕ) → Debris → Bool
is_up_to path debris = is_before path debris || is_prefix path debris.path

-- one, where something is so
abbrev pub one_if : Bool → ℕ
one_if is = if is then 1 else 0

-- a place has the piece at a path
pub record IsFound (path : List (List ℕ)) (pieces : List Debris) (place : ℕ) : Type 0 where
  pub within : place < length pieces
  pub at : (d : Debris) → is_at path (slice_index_or pieces place d) ≡ true

-- a list is as it was in front of a place, which it has
pub record IsSameBefore (old new : List Debris) (place : ℕ) : Type 0 where
  pub within : place ≤ length new
  pub front : take place new ≡ take place old
