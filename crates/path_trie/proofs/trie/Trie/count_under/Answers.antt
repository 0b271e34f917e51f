use Rattle.path_trie.proofs.Onwards.{under_shown}
use Rattle.path_trie.proofs.trie.Trie.count_under.Goals as goal

pub returns : goal.returns
returns g c = under_shown c.self.inside.root c.names.result.now c.args.path.now c.args.self.now _ c.names.ensures.value c.self.view_is c.count_at.ensures
