-- The row whose part a make reads.
use Rattle.std.specs.Prelude.{◌≡◌, true, List}
use Rattle.std.specs.List.{Contains}
use Rattle.mat_model.specs.declared.book.Row.{Row}
use Rattle.mat_model.specs.WorkState.{Lent}

-- a part is that of a row that stands, with its path, stamp and tree
pub record IsSourceOf (rows : List Row) (part : Lent) : Type 0 where
  pub row : Row
  pub among : Contains rows row
  pub path : row.path ≡ part.path
  pub stamp : row.stamp ≡ part.stamp
  pub tree : row.tree ≡ part.tree
  pub stands : row.stands ≡ true
