use Rattle.core_laws.proofs.RuleMoves.{same_disk}
use Rattle.core_laws.proofs.rule_laws.same_keeps_disk.Goals as goal

pub returns : goal.returns
returns c = same_disk
