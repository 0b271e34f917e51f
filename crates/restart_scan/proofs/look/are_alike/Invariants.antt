use Rattle.std.proofs.Common.{◌≡◌, drop}
use Rattle.restart_scan.specs.Looks as Spec
use Rattle.restart_scan.proofs.look.are_alike.Given as goal

-- those left are alike just where all are
abbrev pub invariant-loop-place : goal.invariant-loop-place
invariant-loop-place l = Spec.are_alike (drop l.place l.nodes) (drop l.place l.seen) ≡ Spec.are_alike l.nodes l.seen
