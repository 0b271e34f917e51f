use Rattle.reapi_dir.specs.Children.{file_child}
use Rattle.reapi_dir.proofs.Appends.{fields_more}
use Rattle.reapi_dir.proofs.sum.push_file_children.Goals as goal

pub loop-child-preserved : goal.loop-child-preserved
loop-child-preserved c =
    fields_more file_child c.args.children.now c.loop-child.child-index c.child-item.result c.args.message.now.items c.loop-child.message.items _
    c.loop-child-test.true c.child-item.is c.loop-child.invariant c.in_ok-push_file_child.ensures
