use Rattle.std.proofs.Common.{◌≡◌, drop}
use Rattle.keep_port.specs.Rows.{touch_all}
use Rattle.keep_port.proofs.rows.touch_all.Given as goal

abbrev pub invariant-loop-one : goal.invariant-loop-one
invariant-loop-one l = touch_all l.rows.items (drop l.one-index l.touches) ≡ touch_all l.initial.rows.items l.touches
