use Rattle.core_laws.proofs.RuleMoves.{restart_disk}
use Rattle.core_laws.proofs.rule_laws.restart_keeps_disk.Goals as goal

pub returns : goal.returns
returns c = restart_disk
