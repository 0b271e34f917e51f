use Rattle.core_laws.proofs.BeginMoves.{refused_disk}
use Rattle.core_laws.proofs.rule_laws.refused_begin_keeps_disk.Goals as goal

pub returns : goal.returns
returns c = refused_disk
