use Rattle.core_laws.proofs.StoreSteps.{opening_kept}
use Rattle.core_laws.proofs.store_laws.opening_keeps_found.Goals as goal

pub returns : goal.returns
returns c = opening_kept
