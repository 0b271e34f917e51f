use Rattle.std.specs.Cmp.{second_so}
use Rattle.std.proofs.Common.{◌++◌, length, ap, sym, ◌∙◌, arith}
use Rattle.std.specs.List.{list_all}
use Rattle.mat_tree.specs.Nodes.{placed, below_all}
use Rattle.mat_tree.specs.Trees.{has_rel}
use Rattle.mat_tree.proofs.Folds.{below_dir_out, child_length, child_within}
use Rattle.mat_tree.proofs.Placed.{placed_pushed, rels_at, listed_all, listed_dir}
use Rattle.mat_tree.proofs.Joins.{on_ok}
use Rattle.mat_tree.proofs.listing.+listing.Goals as goal

pub list_child-list_node-requires : goal.list_child-list_node-requires
list_child-list_node-requires t c =
    let e = child_length c.args.child.now in (
      omega arith,
      ap (list_all has_rel) (sym (placed_pushed c.args.names.now.items c.push.new.self.items c.in_ok-copy.field-0 c.args.child.now c.in_ok-push.ensures.items c.in_ok-copy.ensures.ok))
          ∙ c.requires,
    )

pub list_child-returns-clause-nodes : goal.list_child-returns-clause-nodes
list_child-returns-clause-nodes t c =
    c.in_ok-list_node.ensures.nodes
    ∙ ap (λ t. c.args.nodes.now.items ++ t) (sym (placed_pushed c.args.names.now.items c.push.new.self.items c.in_ok-copy.field-0 c.args.child.now c.in_ok-push.ensures.items c.in_ok-copy.ensures.ok))

pub list_children-list_child-requires : goal.list_children-list_child-requires
list_children-list_child-requires t c =
    let e = child_within c.args.children.now c.loop-child.child-index c.child-item.result c.loop-child-test.true c.child-item.is in (
      omega arith,
      rels_at c.loop-child.names.items c.args.children.now c.loop-child.child-index c.child-item.result c.loop-child-test.true c.child-item.is
          (ap (λ n. list_all has_rel (placed n (below_all c.args.children.now))) c.loop-child.invariant.names ∙ c.requires),
    )

pub list_node-list_children-requires : goal.list_node-list_children-requires
list_node-list_children-requires t c =
    let e = ap length (below_dir_out c.args.node.now c.in-Dir.children c.list.result.now c.in-Dir.is c.list.ensures) in
    (omega arith, second_so _ _ (ap (list_all has_rel) (sym (listed_dir c.args.names.now.items c.args.node.now c.in-Dir.children c.list.result.now c.in-Dir.is c.list.ensures)) ∙ c.requires))

pub list_node-returns-in-Dir-clause-nodes : goal.list_node-returns-in-Dir-clause-nodes
list_node-returns-in-Dir-clause-nodes t c =
    on_ok c.list_children.result
    (listed_all c.args.names.now.items c.deref.result.now c.args.nodes.now.items c.list_one.new.nodes.items c.list_children.new.nodes.items c.args.node.now
    c.in-Dir.children c.list.result.now c.in-Dir.is c.list.ensures c.in_ok-list_one.ensures c.deref.ensures.value)
    c.list_children.ensures.nodes
