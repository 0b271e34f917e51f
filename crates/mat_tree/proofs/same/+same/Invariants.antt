use Rattle.std.proofs.Common.{◌≡◌, ◌+◌, ◌*◌, length, drop}
use Rattle.std.specs.Cmp.Lexicographic.{pointwise}
use Rattle.mat_tree.specs.Nodes.{below_all, below_child, below_node}
use Rattle.mat_tree.proofs.Pairs.{same_pair}
use Rattle.mat_tree.proofs.same.+same.Given as goal

abbrev pub decreases-same_node : goal.decreases-same_node
decreases-same_node l = 3 * length (below_node l.a.now)

abbrev pub decreases-same_child : goal.decreases-same_child
decreases-same_child l = 3 * length (below_child l.a.now) + 1

abbrev pub decreases-same_children : goal.decreases-same_children
decreases-same_children l = 3 * length (below_all l.a.now) + 2

abbrev pub invariant-same_children-loop-place : goal.invariant-same_children-loop-place
invariant-same_children-loop-place l = pointwise same_pair l.a l.b ≡ pointwise same_pair (drop l.place l.a) (drop l.place l.b)
