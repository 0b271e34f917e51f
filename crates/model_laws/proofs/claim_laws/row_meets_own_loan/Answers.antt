use Rattle.model_laws.proofs.ClaimLemmas.{disk_own_loan}
use Rattle.model_laws.proofs.claim_laws.row_meets_own_loan.Goals as goal

pub returns : goal.returns
returns c = disk_own_loan
