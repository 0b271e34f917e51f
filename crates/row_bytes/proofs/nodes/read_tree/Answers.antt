use Rattle.std.proofs.Common.{arith}
use Rattle.row_bytes.proofs.NodesBack.{tree_takes}
use Rattle.row_bytes.proofs.nodes.read_tree.Goals as goal

pub tree_of-requires : goal.tree_of-requires
tree_of-requires c =
    rw c.as_slice.ensures.value
    (tree_takes c.args.end c.args.bytes.now (c.in_ok-nodes.nodes.items, c.in_ok-nodes.rest.now) (λ i. omega (arith, c.type_inv.bytes i)) c.in_ok-nodes.ensures).1
