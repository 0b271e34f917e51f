use Rattle.mat_tree.proofs.Refusals.{parent_told}
use Rattle.mat_tree.proofs.refuse.has_parent.Goals as goal

pub returns : goal.returns
returns c = parent_told c.args.nodes.now c.args.node.now c.names-names.result.now c.has_dir_at.result c.has_dir_at.ensures c.if-is_empty.ensures c.names-names.ensures.value
