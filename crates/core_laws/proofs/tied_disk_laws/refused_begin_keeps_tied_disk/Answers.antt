use Rattle.core_laws.proofs.BeginMoves.{refused_tied}
use Rattle.core_laws.proofs.tied_disk_laws.refused_begin_keeps_tied_disk.Goals as goal

pub returns : goal.returns
returns c = refused_tied
