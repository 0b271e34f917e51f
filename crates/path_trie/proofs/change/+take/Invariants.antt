use Rattle.std.proofs.Common.{◌+◌, ◌*◌, length}
use Rattle.path_trie.proofs.change.+take.Given as goal

abbrev pub decreases-take_at : goal.decreases-take_at
decreases-take_at g l = 2 * length l.names.now

abbrev pub decreases-take_among : goal.decreases-take_among
decreases-take_among g l = 2 * length l.more.now + 1
