use Rattle.path_trie.proofs.ShownLemmas.{ascends_as}
use Rattle.path_trie.proofs.trie.Trie.is_in_order.Goals as goal

pub returns : goal.returns
returns g c = ascends_as c.self.inside.root c.args.self.now c.self.invariant.ascending c.self.view_is
