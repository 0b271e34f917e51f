use Rattle.core_laws.proofs.EndMoves.{end_tied_disk}
use Rattle.core_laws.proofs.tied_disk_laws.end_keeps_tied_disk.Goals as goal

pub returns : goal.returns
returns c = end_tied_disk
