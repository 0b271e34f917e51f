use Rattle.path_trie.specs.Nodes.{below_node}
use Rattle.path_trie.proofs.Picks.{longest}
use Rattle.path_trie.proofs.pick.+value_at.Given as goal

abbrev pub decreases-value_at : goal.decreases-value_at
decreases-value_at g l = longest (below_node l.node.now)
