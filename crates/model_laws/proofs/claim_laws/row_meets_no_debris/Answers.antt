use Rattle.model_laws.proofs.ClaimLemmas.{disk_no_debris}
use Rattle.model_laws.proofs.claim_laws.row_meets_no_debris.Goals as goal

pub returns : goal.returns
returns c = disk_no_debris
