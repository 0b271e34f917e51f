use Rattle.std.proofs.Common.{◌≡◌, map}
use Rattle.restart_scan.specs.Rows as Spec
use Rattle.restart_scan.proofs.reading.rows_of.Given as goal

-- the pairs so far
abbrev pub invariant-loop-path : goal.invariant-loop-path
invariant-loop-path l = map Spec.kept_view l.rows.items ≡ Spec.kept_in l.yielded
