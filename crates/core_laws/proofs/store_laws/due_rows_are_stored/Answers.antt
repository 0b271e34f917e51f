use Rattle.core_laws.proofs.StoreSteps.{store_flushed}
use Rattle.core_laws.proofs.store_laws.due_rows_are_stored.Goals as goal

pub returns : goal.returns
returns c = store_flushed
