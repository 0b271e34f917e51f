use Rattle.std.proofs.Common.{◌++◌, ap, ◌∙◌, arith}
use Rattle.mat_tree.proofs.Folds.{child_within}
use Rattle.mat_tree.proofs.Joins.{on_ok}
use Rattle.reapi_dir.proofs.Levels.{dir_field_is}
use Rattle.mat_tree.proofs.Orders.{below_fewer, below_order, each_order}
use Rattle.reapi_dir.proofs.sum.+sum.Goals as goal

pub push_dir_child-digest_dir-requires : goal.push_dir_child-digest_dir-requires
push_dir_child-digest_dir-requires t c =
    let e = below_fewer c.args.child.now c.in-Dir.children c.list.result.now c.in-Dir.is c.list.ensures in
    (omega arith, below_order c.args.child.now c.in-Dir.children c.list.result.now c.in-Dir.is c.list.ensures c.requires)

pub push_dir_children-push_dir_child-requires : goal.push_dir_children-push_dir_child-requires
push_dir_children-push_dir_child-requires t c =
    let e = child_within c.args.children.now c.loop-child.child-index c.child-item.result c.loop-child-test.true c.child-item.is in
    (omega arith, each_order c.args.children.now c.loop-child.child-index c.child-item.result c.loop-child-test.true c.child-item.is c.requires)

pub push_dir_child-returns-in_ok-digest-in-Dir : goal.push_dir_child-returns-in_ok-digest-in-Dir
push_dir_child-returns-in_ok-digest-in-Dir t c =
    on_ok c.push_dir.result
    (λ e. e ∙ ap (λ t. c.args.message.now.items ++ t)
    (dir_field_is c.args.child.now c.in-Dir.children c.list.result.now c.in_ok-digest-in-Dir.digest c.in-Dir.is c.list.ensures c.requires c.in_ok-digest-in-Dir.ensures))
    c.push_dir.ensures
