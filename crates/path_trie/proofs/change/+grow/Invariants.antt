use Rattle.std.proofs.Common.{◌+◌, ◌*◌, length}
use Rattle.path_trie.proofs.change.+grow.Given as goal

abbrev pub decreases-add_edge : goal.decreases-add_edge
decreases-add_edge g l = 2 * length l.more.now + 1

abbrev pub decreases-node_of : goal.decreases-node_of
decreases-node_of g l = 2 * length l.names.now
