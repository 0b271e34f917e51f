use Rattle.model_laws.proofs.PreemptLemmas.{opening_preempted}
use Rattle.model_laws.proofs.run_laws.preempted_by_whom_took_place.Goals as goal

pub returns : goal.returns
returns c = opening_preempted
