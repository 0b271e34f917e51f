use Rattle.model_laws.proofs.StoredKept.{opened_stored}
use Rattle.model_laws.proofs.work_laws.opening_keeps_stored.Goals as goal

pub returns : goal.returns
returns c = opened_stored
