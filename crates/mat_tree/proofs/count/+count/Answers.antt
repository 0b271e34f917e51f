use Rattle.std.proofs.Common.{length, ◌+◌, arith, ap}
use Rattle.mat_tree.proofs.Folds.{below_dir_out, below_all_count, below_all_part}
use Rattle.mat_tree.proofs.count.+count.Goals as goal

pub count_node-count_children-requires : goal.count_node-count_children-requires
count_node-count_children-requires t c =
    let e = ap length (below_dir_out c.args.node.now c.in-Dir.children c.list.result.now c.in-Dir.is c.list.ensures) in
    (omega arith, omega arith)

pub count_children-count_node-count-requires : goal.count_children-count_node-count-requires
count_children-count_node-count-requires t c =
    let e = below_all_count c.args.children.now c.loop-child.child-index c.child-item.result c.loop-child-test.true c.child-item.is in
    let f = below_all_part c.args.children.now (c.loop-child.child-index + 1) in
    (omega arith, omega arith)

pub count_children-loop-child-preserved : goal.count_children-loop-child-preserved
count_children-loop-child-preserved t c =
    let e = below_all_count c.args.children.now c.loop-child.child-index c.child-item.result c.loop-child-test.true c.child-item.is in
    omega arith

pub count_children-overflow_add-count : goal.count_children-overflow_add-count
count_children-overflow_add-count t c =
    let e = below_all_count c.args.children.now c.loop-child.child-index c.child-item.result c.loop-child-test.true c.child-item.is in
    let f = below_all_part c.args.children.now (c.loop-child.child-index + 1) in
    omega arith

pub count_node-overflow_add-result : goal.count_node-overflow_add-result
count_node-overflow_add-result t c =
    let e = ap length (below_dir_out c.args.node.now c.in-Dir.children c.list.result.now c.in-Dir.is c.list.ensures) in
    omega arith

pub count_node-returns-in-Dir : goal.count_node-returns-in-Dir
count_node-returns-in-Dir t c =
    let e = ap length (below_dir_out c.args.node.now c.in-Dir.children c.list.result.now c.in-Dir.is c.list.ensures) in
    omega arith
