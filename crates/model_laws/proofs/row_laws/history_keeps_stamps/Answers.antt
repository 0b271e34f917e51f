use Rattle.model_laws.proofs.StampLemmas.{history_stamps}
use Rattle.model_laws.proofs.row_laws.history_keeps_stamps.Goals as goal

pub returns : goal.returns
returns c = history_stamps
