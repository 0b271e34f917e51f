use Rattle.std.proofs.Common.{◌≡◌, ◌++◌, map, take}
use Rattle.write_plan.specs.Plans.{act_of}
use Rattle.write_plan.proofs.acts.push_nodes.Given as goal

abbrev pub invariant-loop-node : goal.invariant-loop-node
invariant-loop-node l = l.acts.items ≡ l.initial.acts.items ++ map (act_of l.method l.lent) (take l.node-index l.nodes)
