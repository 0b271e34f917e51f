use Rattle.model_laws.proofs.ClaimLemmas.{debris_unclaimed}
use Rattle.model_laws.proofs.claim_laws.returned_part_meets_no_debris.Goals as goal

pub returns : goal.returns
returns c = debris_unclaimed
