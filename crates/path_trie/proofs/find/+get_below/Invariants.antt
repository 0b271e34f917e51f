use Rattle.std.proofs.Common.{length}
use Rattle.path_trie.proofs.find.+get_below.Given as goal

abbrev pub decreases-get_below : goal.decreases-get_below
decreases-get_below g l = length l.names.now
