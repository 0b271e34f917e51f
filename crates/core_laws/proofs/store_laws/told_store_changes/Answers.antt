use Rattle.core_laws.proofs.StoreSteps.{told_change}
use Rattle.core_laws.proofs.store_laws.told_store_changes.Goals as goal

pub returns : goal.returns
returns c = told_change
