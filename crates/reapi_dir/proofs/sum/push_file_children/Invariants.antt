use Rattle.std.proofs.Common.{◌≡◌, ◌++◌, take}
use Rattle.std.specs.List.{flat_map}
use Rattle.reapi_dir.specs.Children.{file_child}
use Rattle.reapi_dir.proofs.sum.push_file_children.Given as goal

abbrev pub invariant-loop-child : goal.invariant-loop-child
invariant-loop-child l = l.message.items ≡ l.initial.message.items ++ flat_map file_child (take l.child-index l.children)
