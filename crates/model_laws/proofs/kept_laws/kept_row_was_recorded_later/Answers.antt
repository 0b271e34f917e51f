use Rattle.model_laws.proofs.KeptLemmas.{history_comes}
use Rattle.model_laws.proofs.kept_laws.kept_row_was_recorded_later.Goals as goal

pub returns : goal.returns
returns c = history_comes
