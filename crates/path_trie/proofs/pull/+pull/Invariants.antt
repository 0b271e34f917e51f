use Rattle.std.proofs.Common.{◌+◌, ◌*◌}
use Rattle.path_trie.specs.Nodes.{below_all, below_node}
use Rattle.path_trie.proofs.Picks.{longest}
use Rattle.path_trie.proofs.pull.+pull.Given as goal

abbrev pub decreases-pull_at : goal.decreases-pull_at
decreases-pull_at g l = 2 * longest (below_node l.node.now) + 1

abbrev pub decreases-pull_child : goal.decreases-pull_child
decreases-pull_child g l = 2 * longest (below_all l.edges.now.items)
