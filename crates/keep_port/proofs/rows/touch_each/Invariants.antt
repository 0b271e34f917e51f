use Rattle.std.proofs.Common.{◌≡◌, ◌++◌, map, take, drop}
use Rattle.keep_port.specs.Rows.{touched}
use Rattle.keep_port.proofs.rows.touch_each.Given as goal

abbrev pub invariant-loop-row : goal.invariant-loop-row
invariant-loop-row l = l.rows ≡ map (touched l.path l.last) (take l.row-index l.fn.rows) ++ drop l.row-index l.fn.rows
