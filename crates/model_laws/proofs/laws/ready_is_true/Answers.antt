use Rattle.model_laws.proofs.ReadyLemmas.{ready_row}
use Rattle.model_laws.proofs.laws.ready_is_true.Goals as goal

pub returns : goal.returns
returns c = ready_row
