use Rattle.core_laws.proofs.StoreSteps.{opening_store}
use Rattle.core_laws.proofs.store_laws.opening_has_store.Goals as goal

pub returns : goal.returns
returns c = opening_store
