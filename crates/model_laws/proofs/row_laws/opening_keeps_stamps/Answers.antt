use Rattle.model_laws.proofs.StampLemmas.{opening_stamps}
use Rattle.model_laws.proofs.row_laws.opening_keeps_stamps.Goals as goal

pub returns : goal.returns
returns c = opening_stamps
