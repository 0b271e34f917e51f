use Rattle.model_laws.proofs.ClaimLemmas.{leaves_clear_debris}
use Rattle.model_laws.proofs.claim_laws.removed_row_meets_no_debris.Goals as goal

pub returns : goal.returns
returns c = leaves_clear_debris
