use Rattle.model_laws.proofs.ClaimLemmas.{own_loans_apart}
use Rattle.model_laws.proofs.claim_laws.read_part_is_apart.Goals as goal

pub returns : goal.returns
returns c = own_loans_apart
