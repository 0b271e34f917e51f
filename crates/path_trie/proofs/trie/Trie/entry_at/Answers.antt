use Rattle.path_trie.proofs.Onwards.{picked_shown}
use Rattle.path_trie.proofs.trie.Trie.entry_at.Goals as goal

pub returns : goal.returns
returns g c = picked_shown c.self.inside.root c.args.self.now c.args.k _ c.self.invariant.placed c.self.view_is c.value_at.ensures
