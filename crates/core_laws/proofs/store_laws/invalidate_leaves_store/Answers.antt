use Rattle.core_laws.proofs.StoreMoves.{invalidate_store}
use Rattle.core_laws.proofs.store_laws.invalidate_leaves_store.Goals as goal

pub returns : goal.returns
returns c = invalidate_store
