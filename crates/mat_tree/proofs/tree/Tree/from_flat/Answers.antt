use Rattle.std.proofs.Common.{sym}
use Rattle.mat_tree.specs.Nodes.{below_node}
use Rattle.mat_tree.proofs.Refusals.{no_refusal_is_tree}
use Rattle.mat_tree.proofs.Parts.{is_tree_along}
use Rattle.mat_tree.proofs.tree.Tree.from_flat.Goals as goal

pub invariant_of-result : goal.invariant_of-result
invariant_of-result c =
    is_tree_along (below_node c.in-Ok.root) c.args.nodes.now c.in-Ok.ensures.ok
    (no_refusal_is_tree c.args.nodes.now (sym c.in_default.ensures) c.requires.small c.tell_rels.ensures)
