use Rattle.model_laws.proofs.ClaimLemmas.{leaves_clear_loans}
use Rattle.model_laws.proofs.claim_laws.removed_row_meets_no_loan.Goals as goal

pub returns : goal.returns
returns c = leaves_clear_loans
