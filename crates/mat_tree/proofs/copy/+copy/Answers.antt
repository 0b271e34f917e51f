use Rattle.std.proofs.Common.{◌∷◌, refl, ap, sym, ◌∙◌}
use Rattle.mat_tree.specs.declared.flat.What.TheVariants as what
use Rattle.mat_tree.specs.declared.node.Node.TheVariants as variant
use Rattle.mat_tree.specs.Nodes.{at_root}
use Rattle.mat_tree.proofs.Folds.{below_dir_out, copied_more}
use Rattle.mat_tree.proofs.copy.+copy.Goals as goal

pub copy_children-loop-child-preserved : goal.copy_children-loop-child-preserved
copy_children-loop-child-preserved t c =
    copied_more c.args.children.now c.loop-child.copies.items c.push.new.self.items c.loop-child.child-index c.child-item.result
    (record { name = c.in_ok-name.name; node = c.in_ok-node.node }) c.loop-child-test.true c.child-item.is c.loop-child.invariant
    c.in_ok-name.ensures.ok c.in_ok-node.ensures c.in_ok-push.ensures.items

pub copy_node-returns-in_ok-copies-in-Dir : goal.copy_node-returns-in_ok-copies-in-Dir
copy_node-returns-in_ok-copies-in-Dir t c =
    let copies = c.in_ok-copies-in-Dir.copies.items in
    below_dir_out (variant.Dir c.of.result) c.of.result copies refl c.of.ensures
    ∙ ap (λ t. at_root what.Dir ∷ t) c.in_ok-copies-in-Dir.ensures
    ∙ sym (below_dir_out c.args.node.now c.in-Dir.children c.list.result.now c.in-Dir.is c.list.ensures)
