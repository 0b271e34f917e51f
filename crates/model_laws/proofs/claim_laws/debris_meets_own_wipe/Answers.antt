use Rattle.model_laws.proofs.ClaimLemmas.{debris_own_wipe}
use Rattle.model_laws.proofs.claim_laws.debris_meets_own_wipe.Goals as goal

pub returns : goal.returns
returns c = debris_own_wipe
