use Rattle.mat_tree.specs.Trees.{IsNode}
use Rattle.std.proofs.Common.{take}
use Rattle.std.specs.Prelude.{All}
use Rattle.row_bytes.proofs.write.tell_nodes.Given as goal

abbrev pub invariant-loop-node : goal.invariant-loop-node
invariant-loop-node l = All IsNode (take l.node-index l.nodes)
