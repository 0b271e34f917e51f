use Rattle.model_laws.proofs.PlacedLemmas.{opened_placed}
use Rattle.model_laws.proofs.work_laws.opening_keeps_placed.Goals as goal

pub returns : goal.returns
returns c = opened_placed
