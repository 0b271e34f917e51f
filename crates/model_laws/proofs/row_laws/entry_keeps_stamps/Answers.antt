use Rattle.model_laws.proofs.StampLemmas.{entry_stamps}
use Rattle.model_laws.proofs.row_laws.entry_keeps_stamps.Goals as goal

pub returns : goal.returns
returns c = entry_stamps
