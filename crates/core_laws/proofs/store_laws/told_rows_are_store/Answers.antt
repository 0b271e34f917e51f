use Rattle.core_laws.proofs.StoreSteps.{store_told}
use Rattle.core_laws.proofs.store_laws.told_rows_are_store.Goals as goal

pub returns : goal.returns
returns c = store_told
