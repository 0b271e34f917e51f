use Rattle.path_trie.proofs.Kept.{bare_is}
use Rattle.path_trie.proofs.node.Node.is_bare.Goals as goal

pub returns : goal.returns
returns g c = bare_is c.args.self.now c.requires
