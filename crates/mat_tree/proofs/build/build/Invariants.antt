use Rattle.std.proofs.Common.{◌≡◌, ◌∷◌, take}
use Rattle.mat_tree.specs.Nodes.{below_node}
use Rattle.mat_tree.proofs.build.build.Given as goal

abbrev pub invariant-loop-next : goal.invariant-loop-next
invariant-loop-next l = below_node l.node ≡ l.root ∷ take l.next-index l.rest
