use Rattle.core_laws.proofs.StoreSteps.{store_next, store_none}
use Rattle.core_laws.proofs.store_laws.next_row_is_stored.Goals as goal

pub returns-clause-none : goal.returns-clause-none
returns-clause-none c = store_none

pub returns-clause-next : goal.returns-clause-next
returns-clause-next c = store_next
