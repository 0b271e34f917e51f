use Rattle.core_laws.proofs.StoreMoves.{done_store}
use Rattle.core_laws.proofs.store_laws.recorded_end_leaves_store.Goals as goal

pub returns : goal.returns
returns c = done_store
