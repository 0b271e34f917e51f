use Rattle.std.proofs.Common.{ap, sym, ◌∙◌}
use Rattle.mat_tree.specs.Nodes.{below_node}
use Rattle.mat_tree.specs.Trees.{tree_refusal}
use Rattle.mat_tree.proofs.Refusals.{is_tree_no_refusal}
use Rattle.mat_tree.proofs.tree.Tree.list_is_accepted.Goals as goal

pub returns : goal.returns
returns c = ap tree_refusal (sym c.self.view_is) ∙ is_tree_no_refusal (below_node c.self.inside.root) c.self.invariant
