use Rattle.std.proofs.Common.{◌≡◌, ◌++◌, map, take, drop}
use Rattle.mat_model.specs.Rows.{standing_row}
use Rattle.buckd.proofs.rows.stand.Given as goal

-- the rows passed so far are as after the use, the others as they were
abbrev pub invariant-loop-row : goal.invariant-loop-row
invariant-loop-row l =
    l.rows ≡ map (standing_row l.path) (take l.row-index l.fn.rows) ++ drop l.row-index l.fn.rows
