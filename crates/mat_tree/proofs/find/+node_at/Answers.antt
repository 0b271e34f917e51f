use Rattle.std.proofs.Common.{sym, ap, ◌∙◌, arith}
use Rattle.std.proofs.lemmas.List.{nil_from_length}
use Rattle.std.specs.declared.option.Option.TheVariants.{Some, None}
use Rattle.mat_tree.specs.Nodes.{below_node}
use Rattle.mat_tree.specs.Trees.{sub_tree}
use Rattle.mat_tree.proofs.Orders.{dir_order}
use Rattle.mat_tree.proofs.Subtrees.{sub_tree_root, sub_tree_of_child, step_ascends, names_split}
use Rattle.mat_tree.proofs.Search.{children_in_order}
use Rattle.mat_tree.proofs.find.+node_at.Goals as goal

pub find_child-requires : goal.find_child-requires
find_child-requires t c =
    children_in_order c.list.result.now (dir_order c.args.node.now c.in-Dir.children c.list.result.now c.in-Dir.is c.list.ensures c.requires)

pub node_at-requires : goal.node_at-requires
node_at-requires t c =
    (omega arith, step_ascends c.args.node.now c.in-Dir.children c.list.result.now c.name-item.result c.in-Some.child.now c.in-Dir.is c.list.ensures c.requires c.in-Some.ensures)

pub returns-in-empty : goal.returns-in-empty
returns-in-empty t c =
    sym (ap (sub_tree (below_node c.args.node.now)) (nil_from_length c.args.names.now (omega arith)) ∙ sub_tree_root (below_node c.args.node.now))

pub returns-in-None : goal.returns-in-None
returns-in-None t c =
    sub_tree_of_child c.args.node.now c.in-Dir.children c.list.result.now c.args.names.now c.name-item.result _ None c.in-Dir.is c.list.ensures
    (names_split c.args.names.now c.name-item.result c.in-len1-up.len_at_least c.name-item.is) c.requires c.in-None.ensures

pub returns-in-Some : goal.returns-in-Some
returns-in-Some t c =
    c.node_at.ensures ∙
    sub_tree_of_child c.args.node.now c.in-Dir.children c.list.result.now c.args.names.now c.name-item.result _ (Some c.in-Some.child.now) c.in-Dir.is c.list.ensures
    (names_split c.args.names.now c.name-item.result c.in-len1-up.len_at_least c.name-item.is) c.requires c.in-Some.ensures
