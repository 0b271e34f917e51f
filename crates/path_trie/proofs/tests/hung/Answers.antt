use Rattle.std.proofs.Common.{arith}
use Rattle.path_trie.specs.Entries.{is_under}
use Rattle.path_trie.proofs.Parted.{some_counted}
use Rattle.path_trie.proofs.tests.hung.Goals as goal

pub hang-requires-clause-there : goal.hang-requires-clause-there
hang-requires-clause-there c = some_counted (is_under c.args.path.now) c.args.trie.now c.count_under.result c.count_under.ensures (omega arith)
