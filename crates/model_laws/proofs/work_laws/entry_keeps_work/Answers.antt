use Rattle.model_laws.proofs.WorkKept.{entry_work}
use Rattle.model_laws.proofs.work_laws.entry_keeps_work.Goals as goal

pub returns : goal.returns
returns c = entry_work
