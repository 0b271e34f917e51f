use Rattle.core_laws.proofs.StoreMoves.{flush_store}
use Rattle.core_laws.proofs.store_laws.flush_leaves_store.Goals as goal

pub returns : goal.returns
returns c = flush_store
