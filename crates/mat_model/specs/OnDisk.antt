-- When a disk has what the rows of a book say.
use Rattle.std.specs.Prelude.{◌≡◌, true, List, [], ◌∷◌}
use Rattle.mat_tree.specs.Parts.{HasTree, Part, below}
use Rattle.mat_model.specs.declared.book.Row.{Row}

-- for each row that stands, the disk's part at its path has its tree
abbrev pub AreOnDisk : Part → List Row → Type 0
AreOnDisk content [] = Unit {0}
AreOnDisk content (row ∷ rows) = (row.stands ≡ true → HasTree (below row.path content) row.tree) × AreOnDisk content rows
