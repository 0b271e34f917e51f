use Rattle.std.proofs.Common.{◌≡◌, ◌+◌, length}
use Rattle.mat_tree.specs.Messages.{varint}
use Rattle.reapi_dir.proofs.varint.varint_len.Given as goal

abbrev pub invariant-groups : goal.invariant-groups
invariant-groups l = l.len + length (varint l.rest) ≡ length (varint l.number) + 1

abbrev pub decreases-groups : goal.decreases-groups
decreases-groups l = l.rest
