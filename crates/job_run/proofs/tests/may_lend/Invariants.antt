use Rattle.std.proofs.Common.{◌≡◌, drop}
use Rattle.write_plan.specs.Plans.{may_lend}
use Rattle.job_run.proofs.tests.may_lend.Given as goal

abbrev pub invariant-loop-node : goal.invariant-loop-node
invariant-loop-node l = may_lend l.method l.lent l.nodes ≡ may_lend l.method l.lent (drop l.node-index l.nodes)
