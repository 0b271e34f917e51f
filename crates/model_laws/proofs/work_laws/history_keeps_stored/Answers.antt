use Rattle.model_laws.proofs.StoredKept.{history_stored}
use Rattle.model_laws.proofs.work_laws.history_keeps_stored.Goals as goal

pub returns : goal.returns
returns c = history_stored
