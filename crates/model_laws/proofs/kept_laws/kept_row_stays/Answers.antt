use Rattle.model_laws.proofs.KeptStays.{history_stays}
use Rattle.model_laws.proofs.kept_laws.kept_row_stays.Goals as goal

pub returns : goal.returns
returns c = history_stays
