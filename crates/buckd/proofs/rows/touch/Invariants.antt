use Rattle.std.proofs.Common.{◌≡◌, ◌++◌, map, take, drop}
use Rattle.mat_model.specs.Rows.{used_row}
use Rattle.buckd.proofs.rows.touch.Given as goal

-- the rows passed so far are as after the use, the others as they were
abbrev pub invariant-loop-row : goal.invariant-loop-row
invariant-loop-row l =
    l.rows ≡ map (used_row l.path l.moment) (take l.row-index l.fn.rows) ++ drop l.row-index l.fn.rows
