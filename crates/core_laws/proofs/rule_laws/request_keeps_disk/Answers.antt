use Rattle.core_laws.proofs.RuleMoves.{request_disk}
use Rattle.core_laws.proofs.rule_laws.request_keeps_disk.Goals as goal

pub returns : goal.returns
returns c = request_disk
