use Rattle.mat_tree.proofs.Refusals.{after_below}
use Rattle.mat_tree.specs.declared.flat.What.TheVariants as what
use Rattle.row_bytes.proofs.nodes.may_follow.Goals as goal

pub follows-requires : goal.follows-requires
follows-requires c = after_below c.args.last.now.rel c.names.result.now (record { rel = c.args.rel.now; what = what.Dir }) c.if-lt.ensures c.names.ensures.value
