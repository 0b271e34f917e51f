use Rattle.model_laws.proofs.ApartLemmas.{history_apart}
use Rattle.model_laws.proofs.laws.history_keeps_apart.Goals as goal

pub returns : goal.returns
returns c = history_apart
