use Rattle.mat_tree.specs.Nodes.{below_node}
use Rattle.mat_tree.proofs.Bytes.{bytes_fit}
use Rattle.mat_tree.proofs.tree.Tree.bytes.Goals as goal

pub weigh_node-requires : goal.weigh_node-requires
weigh_node-requires c = bytes_fit (below_node c.self.inside.root) c.self.invariant
