use Rattle.model_laws.proofs.ClaimLemmas.{loans_apart}
use Rattle.model_laws.proofs.claim_laws.loans_are_apart.Goals as goal

pub returns : goal.returns
returns c = loans_apart
