use Rattle.std.proofs.Common.{◌≡◌, ◌+◌, ◌*◌, length, take}
use Rattle.mat_tree.specs.Nodes.{below_all, below_node}
use Rattle.mat_tree.specs.Trees.{bytes_of}
use Rattle.mat_tree.proofs.count.+weigh.Given as goal

abbrev pub decreases-weigh_node : goal.decreases-weigh_node
decreases-weigh_node l = 2 * length (below_node l.node.now)

abbrev pub decreases-weigh_children : goal.decreases-weigh_children
decreases-weigh_children l = 2 * length (below_all l.children.now) + 1

abbrev pub invariant-weigh_children-loop-child : goal.invariant-weigh_children-loop-child
invariant-weigh_children-loop-child l = l.sum ≡ bytes_of (below_all (take l.child-index l.children))
