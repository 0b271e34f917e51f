-- What a list of debris keeps.
use Rattle.std.specs.Prelude.{◌≡◌, ℕ, true, List}
use Rattle.std.specs.List.{position_or_len}
use Rattle.mat_model.specs.WorkState.{Debris, is_condemned}
use Rattle.debris_list.specs.Pieces.{are_apart}

-- the pieces are in order and apart, and the first condemned one is at this place; where none is, it is the end
pub record IsList (pieces : List Debris) (first : ℕ) : Type 0 where
  pub apart : are_apart pieces ≡ true
  pub first_place : first ≡ position_or_len is_condemned pieces
