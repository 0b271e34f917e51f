use Rattle.path_trie.proofs.ShownLemmas.{any_as}
use Rattle.path_trie.proofs.trie.Trie.overlaps.Goals as goal

pub returns : goal.returns
returns g c = any_as c.self.inside.root c.names.result.now c.args.path.now c.args.self.now c.overlaps_at.result c.names.ensures.value c.self.view_is c.overlaps_at.ensures
