use Rattle.std.proofs.Common.{◌++◌, ap, ◌∙◌}
use Rattle.std.specs.List.{list_all}
use Rattle.mat_tree.specs.Nodes.{below_node, placed}
use Rattle.mat_tree.specs.Trees.{has_rel}
use Rattle.mat_tree.proofs.Placed.{placed_nothing}
use Rattle.mat_tree.proofs.tree.Tree.flat.Goals as goal

pub list_node-requires : goal.list_node-requires
list_node-requires c =
    ap (λ n. list_all has_rel (placed n (below_node c.self.inside.root))) c.new-names.ensures.items
    ∙ ap (list_all has_rel) (placed_nothing (below_node c.self.inside.root)) ∙ c.self.invariant.rels

pub returns-clause-ok : goal.returns-clause-ok
returns-clause-ok c =
    c.in_ok-list_node.ensures.nodes
    ∙ ap (λ t. t ++ placed c.new-names.result.items (below_node c.self.inside.root)) c.new-nodes.ensures.items
    ∙ ap (λ n. placed n (below_node c.self.inside.root)) c.new-names.ensures.items ∙ placed_nothing (below_node c.self.inside.root) ∙ c.self.view_is
