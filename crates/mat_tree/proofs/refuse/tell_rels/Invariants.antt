use Rattle.std.proofs.Common.{◌≡◌, true, take}
use Rattle.std.specs.List.{list_all}
use Rattle.mat_tree.specs.Trees.{has_rel}
use Rattle.mat_tree.proofs.refuse.tell_rels.Given as goal

abbrev pub invariant-loop-node : goal.invariant-loop-node
invariant-loop-node l = list_all has_rel (take l.node-index l.nodes) ≡ true
