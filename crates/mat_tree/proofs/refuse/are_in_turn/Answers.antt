use Rattle.mat_tree.proofs.Refusals.{after_below}
use Rattle.mat_tree.proofs.refuse.are_in_turn.Goals as goal

pub follows-requires : goal.follows-requires
follows-requires c = after_below c.loop-node.before.now.rel c.names.result.now c.node-item.result c.if-not-is_after.ensures c.names.ensures.value
