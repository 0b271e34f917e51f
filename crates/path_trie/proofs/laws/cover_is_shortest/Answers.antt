use Rattle.path_trie.proofs.Shortest.{shortest}
use Rattle.path_trie.proofs.laws.cover_is_shortest.Goals as goal

pub returns : goal.returns
returns g c = shortest
