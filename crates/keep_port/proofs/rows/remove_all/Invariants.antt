use Rattle.std.proofs.Common.{◌≡◌, drop}
use Rattle.keep_port.specs.Rows.{remove_all}
use Rattle.keep_port.proofs.rows.remove_all.Given as goal

abbrev pub invariant-loop-one : goal.invariant-loop-one
invariant-loop-one l = remove_all l.rows.items (drop l.one-index l.paths) ≡ remove_all l.initial.rows.items l.paths
