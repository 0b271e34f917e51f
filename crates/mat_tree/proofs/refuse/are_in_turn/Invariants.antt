use Rattle.std.proofs.Common.{◌≡◌, drop}
use Rattle.mat_tree.specs.Trees.{is_in_turn}
use Rattle.mat_tree.proofs.refuse.are_in_turn.Given as goal

abbrev pub invariant-loop-node : goal.invariant-loop-node
invariant-loop-node l = is_in_turn l.root l.rest ≡ is_in_turn l.before (drop l.node-index l.rest)
