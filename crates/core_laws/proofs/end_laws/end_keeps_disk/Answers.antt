use Rattle.core_laws.proofs.EndMoves.{end_disk}
use Rattle.core_laws.proofs.end_laws.end_keeps_disk.Goals as goal

pub returns : goal.returns
returns c = end_disk
