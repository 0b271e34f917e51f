use Rattle.std.proofs.Common.{ap, sym, ◌∙◌}
use Rattle.mat_tree.specs.Nodes.{below_node}
use Rattle.mat_tree.specs.Trees.{sub_at}
use Rattle.mat_tree.proofs.Parts.{sub_not_found, sub_link, sub_found, sub_is_tree}
use Rattle.mat_tree.proofs.tree.Tree.sub.Goals as goal

pub node_at-requires : goal.node_at-requires
node_at-requires c = c.self.invariant.order

pub returns-in_default : goal.returns-in_default
returns-in_default c =
    record { ok = sub_not_found (below_node c.self.inside.root) c.args.rest.now c.in_default.ensures ∙ ap (λ t. sub_at t c.args.rest.now) c.self.view_is }

pub returns-then-is_link : goal.returns-then-is_link
returns-then-is_link c =
    record {
      ok = sub_link (below_node c.self.inside.root) c.args.rest.now c.in-Some.node.now c.in-Some.ensures (sym c.if-is_link.ensures)
          ∙ ap (λ t. sub_at t c.args.rest.now) c.self.view_is;
    }

pub invariant_of-result : goal.invariant_of-result
invariant_of-result c =
    sub_is_tree (below_node c.self.inside.root) c.args.rest.now c.in-Some.node.now (below_node c.in_ok-root.root) c.self.invariant c.in-Some.ensures
    (sym c.if-is_link.ensures) c.in_ok-root.ensures

pub returns : goal.returns
returns c =
    record {
      ok = sub_found (below_node c.self.inside.root) c.args.rest.now c.in-Some.node.now (below_node c.in_ok-root.root) c.in-Some.ensures
          (sym c.if-is_link.ensures) c.in_ok-root.ensures ∙ ap (λ t. sub_at t c.args.rest.now) c.self.view_is;
    }
