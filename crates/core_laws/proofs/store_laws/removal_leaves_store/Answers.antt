use Rattle.core_laws.proofs.StoreSteps.{store_removed}
use Rattle.core_laws.proofs.store_laws.removal_leaves_store.Goals as goal

pub returns : goal.returns
returns c = store_removed
