use Rattle.core_laws.proofs.KeepMoves.{entry_whole}
use Rattle.core_laws.proofs.keep_laws.entry_keeps_whole.Goals as goal

pub returns : goal.returns
returns c = entry_whole
