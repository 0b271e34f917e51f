use Rattle.model_laws.proofs.WorkKept.{opened_work}
use Rattle.model_laws.proofs.work_laws.opening_keeps_work.Goals as goal

pub returns : goal.returns
returns c = opened_work
