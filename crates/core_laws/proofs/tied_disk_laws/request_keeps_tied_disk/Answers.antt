use Rattle.core_laws.proofs.RuleMoves.{asked_tied}
use Rattle.core_laws.proofs.tied_disk_laws.request_keeps_tied_disk.Goals as goal

pub returns : goal.returns
returns c = asked_tied
