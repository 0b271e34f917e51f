use Rattle.model_laws.proofs.PlacedLemmas.{history_placed}
use Rattle.model_laws.proofs.work_laws.history_keeps_placed.Goals as goal

pub returns : goal.returns
returns c = history_placed
