use Rattle.model_laws.proofs.KeptLemmas.{history_ascends}
use Rattle.model_laws.proofs.kept_laws.history_keeps_kept_order.Goals as goal

pub returns : goal.returns
returns c = history_ascends
