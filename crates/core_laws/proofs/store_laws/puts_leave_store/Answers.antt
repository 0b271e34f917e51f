use Rattle.core_laws.proofs.StoreSteps.{store_put}
use Rattle.core_laws.proofs.store_laws.puts_leave_store.Goals as goal

pub returns : goal.returns
returns c = store_put
