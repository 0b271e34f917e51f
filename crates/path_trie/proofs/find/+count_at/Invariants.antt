use Rattle.std.proofs.Common.{length}
use Rattle.path_trie.proofs.find.+count_at.Given as goal

abbrev pub decreases-count_at : goal.decreases-count_at
decreases-count_at g l = length l.names.now
