use Rattle.std.proofs.Common.{◌≡◌, ◌++◌, ◌+◌, ◌*◌, length, take}
use Rattle.mat_tree.specs.Nodes.{below_all, below_child, below_node, placed}
use Rattle.mat_tree.proofs.listing.+listing.Given as goal

abbrev pub decreases-list_node : goal.decreases-list_node
decreases-list_node l = 3 * length (below_node l.node.now)

abbrev pub decreases-list_child : goal.decreases-list_child
decreases-list_child l = 3 * length (below_child l.child.now) + 1

abbrev pub decreases-list_children : goal.decreases-list_children
decreases-list_children l = 3 * length (below_all l.children.now) + 2

abbrev pub invariant-list_children-loop-child : goal.invariant-list_children-loop-child
invariant-list_children-loop-child l = record {
  names : l.names.items ≡ l.initial.names.items;
  nodes : l.nodes.items ≡ l.initial.nodes.items ++ placed l.initial.names.items (below_all (take l.child-index l.children));
}
