use Rattle.std.proofs.Common.{◌≡◌, true, drop}
use Rattle.write_plan.specs.Plans.{may_lend}
use Rattle.write_plan.proofs.tests.may_lend.Given as goal

abbrev pub invariant-loop-node : goal.invariant-loop-node
invariant-loop-node l = may_lend l.method true l.nodes ≡ may_lend l.method true (drop l.node-index l.nodes)
