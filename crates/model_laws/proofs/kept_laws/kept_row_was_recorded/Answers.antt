use Rattle.model_laws.proofs.KeptLemmas.{opening_comes}
use Rattle.model_laws.proofs.kept_laws.kept_row_was_recorded.Goals as goal

pub returns : goal.returns
returns c = opening_comes
