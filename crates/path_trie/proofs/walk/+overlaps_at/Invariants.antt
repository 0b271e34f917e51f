use Rattle.std.proofs.Common.{length}
use Rattle.path_trie.proofs.walk.+overlaps_at.Given as goal

abbrev pub decreases-overlaps_at : goal.decreases-overlaps_at
decreases-overlaps_at g l = length l.names.now
