use Rattle.model_laws.proofs.ClaimLemmas.{debris_once}
use Rattle.model_laws.proofs.claim_laws.debris_covers_once.Goals as goal

pub returns : goal.returns
returns c = debris_once
