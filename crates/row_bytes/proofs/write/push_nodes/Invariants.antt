use Rattle.std.proofs.Common.{◌≡◌, ◌++◌, take}
use Rattle.std.specs.List.{flat_map}
use Rattle.row_bytes.specs.Rows.{node_bytes}
use Rattle.row_bytes.proofs.write.push_nodes.Given as goal

abbrev pub invariant-loop-node : goal.invariant-loop-node
invariant-loop-node l = l.out.items ≡ l.initial.out.items ++ flat_map node_bytes (take l.node-index l.nodes)
