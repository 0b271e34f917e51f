use Rattle.model_laws.proofs.KeptLemmas.{opening_ascends}
use Rattle.model_laws.proofs.kept_laws.opening_keeps_kept_order.Goals as goal

pub returns : goal.returns
returns c = opening_ascends
