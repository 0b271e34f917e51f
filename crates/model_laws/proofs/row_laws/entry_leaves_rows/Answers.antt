use Rattle.model_laws.proofs.RowLemmas.{row_step}
use Rattle.model_laws.proofs.row_laws.entry_leaves_rows.Goals as goal

pub returns : goal.returns
returns c = row_step
