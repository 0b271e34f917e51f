use Rattle.path_trie.proofs.Told.{count_out}
use Rattle.path_trie.proofs.node.Node.len.Goals as goal

pub returns : goal.returns
returns g c = count_out c.args.self.now c.requires
