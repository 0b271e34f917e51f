use Rattle.core_laws.proofs.TiedLemmas.{tree_stays}
use Rattle.core_laws.proofs.tied_laws.same_keeps_tree.Goals as goal

pub returns : goal.returns
returns c = tree_stays
