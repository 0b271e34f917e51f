use Rattle.std.proofs.Common.{ap, ◌∙◌}
use Rattle.std.specs.Option.{option_map}
use Rattle.mat_tree.specs.Nodes.{below_node}
use Rattle.mat_tree.specs.Trees.{kind_of, what_at}
use Rattle.mat_tree.proofs.Parts.{kind_found, kind_not_found}
use Rattle.mat_tree.proofs.tree.Tree.has.Goals as goal

pub node_at-requires : goal.node_at-requires
node_at-requires c = c.self.invariant.order

pub returns-in-None : goal.returns-in-None
returns-in-None c =
    kind_not_found (below_node c.self.inside.root) c.args.rest.now c.in-None.ensures ∙ ap (λ t. option_map kind_of (what_at t c.args.rest.now)) c.self.view_is

pub returns-in-Some : goal.returns-in-Some
returns-in-Some c =
    kind_found (below_node c.self.inside.root) c.args.rest.now c.in-Some.node.now c.kind.result c.in-Some.ensures c.kind.ensures
    ∙ ap (λ t. option_map kind_of (what_at t c.args.rest.now)) c.self.view_is
