use Rattle.core_laws.proofs.BeginMoves.{begun_tied}
use Rattle.core_laws.proofs.tied_disk_laws.begin_keeps_tied_disk.Goals as goal

pub returns : goal.returns
returns c = begun_tied
