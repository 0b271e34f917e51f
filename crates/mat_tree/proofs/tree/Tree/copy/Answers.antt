use Rattle.mat_tree.specs.Nodes.{below_node}
use Rattle.mat_tree.proofs.Parts.{is_tree_along}
use Rattle.mat_tree.proofs.tree.Tree.copy.Goals as goal

pub invariant_of-result : goal.invariant_of-result
invariant_of-result c = is_tree_along (below_node c.in_ok-root.root) (below_node c.self.inside.root) c.in_ok-root.ensures c.self.invariant
