use Rattle.std.proofs.Common.{◌+◌, ◌*◌, length}
use Rattle.path_trie.proofs.change.+put.Given as goal

abbrev pub decreases-put_at : goal.decreases-put_at
decreases-put_at g l = 2 * length l.names.now

abbrev pub decreases-put_among : goal.decreases-put_among
decreases-put_among g l = 2 * length l.more.now + 1
