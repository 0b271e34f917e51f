use Rattle.core_laws.proofs.KeepMoves.{again_whole}
use Rattle.core_laws.proofs.keep_laws.same_trees_are_whole.Goals as goal

pub returns : goal.returns
returns c = again_whole
