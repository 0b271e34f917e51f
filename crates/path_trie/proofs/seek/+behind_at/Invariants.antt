use Rattle.std.proofs.Common.{length}
use Rattle.path_trie.proofs.seek.+behind_at.Given as goal

abbrev pub decreases-behind_at : goal.decreases-behind_at
decreases-behind_at g l = length l.names.now
