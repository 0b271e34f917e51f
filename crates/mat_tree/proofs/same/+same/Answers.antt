use Rattle.std.proofs.Common.{◌&&◌, length, ap, sym, ◌∙◌, arith}
use Rattle.mat_tree.specs.Nodes.{below_node}
use Rattle.mat_tree.specs.Trees.{same_tree}
use Rattle.mat_tree.proofs.Folds.{below_dir_out, child_length, child_within}
use Rattle.mat_tree.proofs.Pairs.{same_differs, same_done, same_lengths, same_dirs, same_children_of}
use Rattle.mat_tree.proofs.same.+same.Goals as goal

pub same_child-same_node-requires : goal.same_child-same_node-requires
same_child-same_node-requires t c = let e = child_length c.args.a.now in (omega arith, tt)

pub same_child-returns-then-eq : goal.same_child-returns-then-eq
same_child-returns-then-eq t c =
    sym (same_children_of c.args.a.now c.args.b.now
    ∙ ap (λ b. b && same_tree (below_node c.args.a.now.node) (below_node c.args.b.now.node)) (sym c.if-eq.ensures) ∙ sym c.same_node.ensures)

pub same_children-returns-then-a-b : goal.same_children-returns-then-a-b
same_children-returns-then-a-b t c = sym (same_lengths c.args.a.now c.args.b.now c.if-a-b.true)

pub same_children-same_child-requires : goal.same_children-same_child-requires
same_children-same_child-requires t c =
    let e = child_within c.args.a.now c.loop-place.place c.index-a-place.result c.loop-place-test.true c.index-a-place.is in
    (omega arith, tt)

pub same_children-returns-then-not-same_child : goal.same_children-returns-then-not-same_child
same_children-returns-then-not-same_child t c =
    sym (same_differs c.args.a.now c.args.b.now c.loop-place.place c.index-a-place.result c.index-b-place.result c.loop-place-test.true (omega arith)
    c.index-a-place.is c.index-b-place.is c.loop-place.invariant (sym c.if-not-same_child.ensures))

pub same_children-returns : goal.same_children-returns
same_children-returns t c = sym (same_done c.args.a.now c.args.b.now c.loop-place.place (omega arith) (omega arith) c.loop-place.invariant)

pub same_node-same_children-requires : goal.same_node-same_children-requires
same_node-same_children-requires t c =
    let e = ap length (below_dir_out c.args.a.now c.in-Dir.children c.list.result.now c.in-Dir.is c.list.ensures) in
    (omega arith, tt)

pub same_node-returns-in-Dir-b : goal.same_node-returns-in-Dir-b
same_node-returns-in-Dir-b t c =
    c.same_children.ensures
    ∙ sym (same_dirs c.args.a.now c.args.b.now c.in-Dir.children c.in-Dir-b.others c.list.result.now c.list-in-Dir-b.result.now c.in-Dir.is c.list.ensures
    c.in-Dir-b.is c.list-in-Dir-b.ensures)
