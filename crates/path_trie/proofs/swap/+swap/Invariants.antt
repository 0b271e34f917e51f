use Rattle.std.proofs.Common.{◌+◌, ◌*◌, length}
use Rattle.path_trie.proofs.swap.+swap.Given as goal

abbrev pub decreases-swap_at : goal.decreases-swap_at
decreases-swap_at g l = 2 * length l.names.now

abbrev pub decreases-swap_among : goal.decreases-swap_among
decreases-swap_among g l = 2 * length l.more.now + 1
