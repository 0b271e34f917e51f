use Rattle.std.proofs.Common.{◌≡◌, ◌++◌, ◌+◌, ◌*◌, length, take}
use Rattle.std.specs.List.{flat_map}
use Rattle.mat_tree.specs.Nodes.{below_all, below_child}
use Rattle.reapi_dir.specs.Children.{dir_child}
use Rattle.reapi_dir.proofs.sum.+sum.Given as goal

abbrev pub decreases-push_dir_child : goal.decreases-push_dir_child
decreases-push_dir_child l = 3 * length (below_child l.child.now)

abbrev pub decreases-push_dir_children : goal.decreases-push_dir_children
decreases-push_dir_children l = 3 * length (below_all l.children.now) + 1

abbrev pub decreases-digest_dir : goal.decreases-digest_dir
decreases-digest_dir l = 3 * length (below_all l.children.now) + 2

abbrev pub invariant-push_dir_children-loop-child : goal.invariant-push_dir_children-loop-child
invariant-push_dir_children-loop-child l = l.message.items ≡ l.initial.message.items ++ flat_map dir_child (take l.child-index l.children)
