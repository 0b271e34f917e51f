use Rattle.model_laws.proofs.ClaimLemmas.{loans_once}
use Rattle.model_laws.proofs.claim_laws.loans_cover_once.Goals as goal

pub returns : goal.returns
returns c = loans_once
