use Rattle.mat_tree.proofs.Refusals.{fault_more}
use Rattle.mat_tree.proofs.refuse.search_fault.Goals as goal

pub loop-place-preserved : goal.loop-place-preserved
loop-place-preserved c =
    fault_more c.args.nodes.now c.args.root.now c.loop-place.before.now c.index-rest-place.result c.args.rest.now c.loop-place.place c.loop-place-test.true
    c.index-rest-place.is c.loop-place.invariant c.if-not-is_after.ensures c.if-not-has_parent.ensures
