use Rattle.std.proofs.Common.{length}
use Rattle.path_trie.proofs.walk.+cover_at.Given as goal

abbrev pub decreases-cover_at : goal.decreases-cover_at
decreases-cover_at g l = length l.names.now
