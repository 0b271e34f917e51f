use Rattle.core_laws.proofs.TiedLemmas.{tree_given}
use Rattle.core_laws.proofs.tied_laws.give_brings_tree.Goals as goal

pub returns : goal.returns
returns c = tree_given
