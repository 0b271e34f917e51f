use Rattle.std.proofs.Common.{length}
use Rattle.path_trie.proofs.seek.+high_at.Given as goal

abbrev pub decreases-high_at : goal.decreases-high_at
decreases-high_at g l = length l.names.now
