use Rattle.core_laws.proofs.StoreMoves.{clean_store}
use Rattle.core_laws.proofs.store_laws.clean_leaves_store.Goals as goal

pub returns : goal.returns
returns c = clean_store
