use Rattle.path_trie.proofs.Parted.{hung_back}
use Rattle.path_trie.proofs.laws.a_part_hung_back.Goals as goal

pub returns : goal.returns
returns g c = hung_back
