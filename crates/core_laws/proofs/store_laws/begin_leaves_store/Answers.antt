use Rattle.core_laws.proofs.StoreMoves.{begin_store}
use Rattle.core_laws.proofs.store_laws.begin_leaves_store.Goals as goal

pub returns : goal.returns
returns c = begin_store
