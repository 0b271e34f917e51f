use Rattle.core_laws.proofs.BeginMoves.{begin_disk}
use Rattle.core_laws.proofs.rule_laws.begin_keeps_disk.Goals as goal

pub returns : goal.returns
returns c = begin_disk
