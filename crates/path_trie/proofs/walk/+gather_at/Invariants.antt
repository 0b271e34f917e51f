use Rattle.std.proofs.Common.{length}
use Rattle.path_trie.proofs.walk.+gather_at.Given as goal

abbrev pub decreases-gather_at : goal.decreases-gather_at
decreases-gather_at g l = length l.names.now
