use Rattle.model_laws.proofs.PointLemmas.{entry_point}
use Rattle.model_laws.proofs.work_laws.entry_keeps_point.Goals as goal

pub returns : goal.returns
returns c = entry_point
