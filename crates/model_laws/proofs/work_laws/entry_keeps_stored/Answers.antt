use Rattle.model_laws.proofs.StoredKept.{entry_stored}
use Rattle.model_laws.proofs.work_laws.entry_keeps_stored.Goals as goal

pub returns : goal.returns
returns c = entry_stored
