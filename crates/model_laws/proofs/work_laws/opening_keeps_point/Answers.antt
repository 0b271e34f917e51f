use Rattle.model_laws.proofs.PointLemmas.{opened_point}
use Rattle.model_laws.proofs.work_laws.opening_keeps_point.Goals as goal

pub returns : goal.returns
returns c = opened_point
