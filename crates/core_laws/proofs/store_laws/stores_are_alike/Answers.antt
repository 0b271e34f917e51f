use Rattle.core_laws.proofs.StoreSteps.{store_alike}
use Rattle.core_laws.proofs.store_laws.stores_are_alike.Goals as goal

pub returns : goal.returns
returns c = store_alike
