use Rattle.mat_tree.proofs.tree.Tree.nodes.Goals as goal

pub count_node-requires : goal.count_node-requires
count_node-requires c = c.self.invariant.few
