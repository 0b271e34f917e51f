use Rattle.core_laws.proofs.KeepMoves.{begin_whole}
use Rattle.core_laws.proofs.keep_laws.begin_keeps_whole.Goals as goal

pub returns : goal.returns
returns c = begin_whole
