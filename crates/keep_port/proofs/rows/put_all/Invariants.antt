use Rattle.std.proofs.Common.{◌≡◌, true, drop}
use Rattle.keep_port.specs.Rows.{ascend, put_all}
use Rattle.keep_port.proofs.rows.put_all.Given as goal

abbrev pub invariant-loop-row : goal.invariant-loop-row
invariant-loop-row l = (put_all l.new.items (drop l.row-index l.rows) ≡ put_all l.old l.rows) × (ascend l.new.items ≡ true)
