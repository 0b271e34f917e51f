use Rattle.model_laws.proofs.StampLemmas.{stamp_names}
use Rattle.model_laws.proofs.row_laws.stamp_names_row.Goals as goal

pub returns : goal.returns
returns c = stamp_names
