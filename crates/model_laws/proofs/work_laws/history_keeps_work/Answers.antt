use Rattle.model_laws.proofs.WorkKept.{history_work}
use Rattle.model_laws.proofs.work_laws.history_keeps_work.Goals as goal

pub returns : goal.returns
returns c = history_work
