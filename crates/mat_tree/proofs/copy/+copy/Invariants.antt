use Rattle.std.proofs.Common.{◌≡◌, take}
use Rattle.mat_tree.specs.Nodes.{below_all}
use Rattle.mat_tree.proofs.copy.+copy.Given as goal

abbrev pub invariant-copy_children-loop-child : goal.invariant-copy_children-loop-child
invariant-copy_children-loop-child l = below_all l.copies.items ≡ below_all (take l.child-index l.children)
