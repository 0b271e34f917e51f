use Rattle.core_laws.proofs.RuleMoves.{opened_tied}
use Rattle.core_laws.proofs.tied_disk_laws.opening_is_tied_disk.Goals as goal

pub returns : goal.returns
returns c = opened_tied
