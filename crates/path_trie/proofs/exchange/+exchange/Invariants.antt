use Rattle.std.proofs.Common.{◌+◌, ◌*◌, length}
use Rattle.path_trie.proofs.exchange.+exchange.Given as goal

abbrev pub decreases-exchange_at : goal.decreases-exchange_at
decreases-exchange_at g l = 2 * length l.names.now

abbrev pub decreases-exchange_among : goal.decreases-exchange_among
decreases-exchange_among g l = 2 * length l.more.now + 1
