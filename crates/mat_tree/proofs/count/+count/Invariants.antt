use Rattle.std.proofs.Common.{◌≡◌, ◌+◌, ◌*◌, length, take}
use Rattle.mat_tree.specs.Nodes.{below_all, below_node}
use Rattle.mat_tree.proofs.count.+count.Given as goal

abbrev pub decreases-count_node : goal.decreases-count_node
decreases-count_node l = 2 * length (below_node l.node.now)

abbrev pub decreases-count_children : goal.decreases-count_children
decreases-count_children l = 2 * length (below_all l.children.now) + 1

abbrev pub invariant-count_children-loop-child : goal.invariant-count_children-loop-child
invariant-count_children-loop-child l = l.count ≡ length (below_all (take l.child-index l.children))
