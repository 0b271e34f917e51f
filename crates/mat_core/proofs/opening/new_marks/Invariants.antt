use Rattle.std.proofs.Common.{◌≡◌, [], map, take}
use Rattle.mat_core.specs.Opened.{new_mark}
use Rattle.mat_core.proofs.opening.new_marks.Given as goal

-- the marks so far
abbrev pub invariant-loop-row : goal.invariant-loop-row
invariant-loop-row l = (l.book.marks ≡ map new_mark (take l.row-index l.rows)) × (l.book.reserved ≡ [])
