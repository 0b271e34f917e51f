use Rattle.model_laws.proofs.PlacedLemmas.{entry_placed}
use Rattle.model_laws.proofs.work_laws.entry_keeps_placed.Goals as goal

pub returns : goal.returns
returns c = entry_placed
