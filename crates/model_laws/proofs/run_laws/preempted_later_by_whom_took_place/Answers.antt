use Rattle.model_laws.proofs.PreemptLemmas.{history_preempted}
use Rattle.model_laws.proofs.run_laws.preempted_later_by_whom_took_place.Goals as goal

pub returns : goal.returns
returns c = history_preempted
