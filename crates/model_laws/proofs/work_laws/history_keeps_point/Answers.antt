use Rattle.model_laws.proofs.PointLemmas.{history_point}
use Rattle.model_laws.proofs.work_laws.history_keeps_point.Goals as goal

pub returns : goal.returns
returns c = history_point
