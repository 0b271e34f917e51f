use Rattle.std.proofs.Common.{length, ◌+◌, arith, ap}
use Rattle.mat_tree.proofs.Folds.{below_dir_out, below_all_count, below_all_part}
use Rattle.mat_tree.proofs.Bytes.{bytes_dir, bytes_more, bytes_part}
use Rattle.mat_tree.proofs.count.+weigh.Goals as goal

pub weigh_node-weigh_children-requires : goal.weigh_node-weigh_children-requires
weigh_node-weigh_children-requires t c =
    let e = ap length (below_dir_out c.args.node.now c.in-Dir.children c.list.result.now c.in-Dir.is c.list.ensures) in
    let f = bytes_dir c.args.node.now c.in-Dir.children c.list.result.now c.in-Dir.is c.list.ensures in
    (omega arith, omega arith)

pub weigh_children-weigh_node-sum-requires : goal.weigh_children-weigh_node-sum-requires
weigh_children-weigh_node-sum-requires t c =
    let e = below_all_count c.args.children.now c.loop-child.child-index c.child-item.result c.loop-child-test.true c.child-item.is in
    let f = below_all_part c.args.children.now (c.loop-child.child-index + 1) in
    let g = bytes_more c.args.children.now c.loop-child.child-index c.child-item.result c.loop-child-test.true c.child-item.is in
    let h = bytes_part c.args.children.now (c.loop-child.child-index + 1) in
    (omega arith, omega arith)

pub weigh_children-overflow_add-sum : goal.weigh_children-overflow_add-sum
weigh_children-overflow_add-sum t c =
    let g = bytes_more c.args.children.now c.loop-child.child-index c.child-item.result c.loop-child-test.true c.child-item.is in
    let h = bytes_part c.args.children.now (c.loop-child.child-index + 1) in
    omega arith

pub weigh_children-loop-child-preserved : goal.weigh_children-loop-child-preserved
weigh_children-loop-child-preserved t c =
    let g = bytes_more c.args.children.now c.loop-child.child-index c.child-item.result c.loop-child-test.true c.child-item.is in
    omega arith

pub weigh_node-returns-in-Dir : goal.weigh_node-returns-in-Dir
weigh_node-returns-in-Dir t c =
    let f = bytes_dir c.args.node.now c.in-Dir.children c.list.result.now c.in-Dir.is c.list.ensures in
    omega arith
