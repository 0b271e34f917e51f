use Rattle.std.proofs.Common.{length}
use Rattle.path_trie.proofs.find.+get_at.Given as goal

abbrev pub decreases-get_at : goal.decreases-get_at
decreases-get_at g l = length l.names.now
