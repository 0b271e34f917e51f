use Rattle.core_laws.proofs.KeepMoves.{store_whole}
use Rattle.core_laws.proofs.keep_laws.stored_rows_are_whole.Goals as goal

pub returns : goal.returns
returns c = store_whole
