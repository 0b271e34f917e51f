use Rattle.std.proofs.Common.{◌+◌, ◌*◌, length}
use Rattle.mat_tree.proofs.build.+build.Given as goal

abbrev pub decreases-with_last : goal.decreases-with_last
decreases-with_last l = 2 * length l.names.now + 1

abbrev pub decreases-with_last_child : goal.decreases-with_last_child
decreases-with_last_child l = 2 * length l.names.now
