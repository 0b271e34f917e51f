use Rattle.core_laws.proofs.StoreSteps.{old_named}
use Rattle.core_laws.proofs.store_laws.old_rows_are_named.Goals as goal

pub returns : goal.returns
returns c = old_named
