use Rattle.core_laws.proofs.StoreSteps.{row_read_as}
use Rattle.core_laws.proofs.store_laws.row_is_read_as_kept.Goals as goal

pub returns : goal.returns
returns c = row_read_as
