use Rattle.std.proofs.Common.{◌≡◌, ◌++◌}
use Rattle.mat_tree.specs.Messages.{varint}
use Rattle.reapi_dir.proofs.varint.push_varint.Given as goal

abbrev pub invariant-groups : goal.invariant-groups
invariant-groups l = l.out.items ++ varint l.rest ≡ l.initial.out.items ++ varint l.number

abbrev pub decreases-groups : goal.decreases-groups
decreases-groups l = l.rest
