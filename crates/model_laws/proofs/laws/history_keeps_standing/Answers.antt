use Rattle.model_laws.proofs.StandingLemmas.{history_stands}
use Rattle.model_laws.proofs.laws.history_keeps_standing.Goals as goal

pub returns : goal.returns
returns c = history_stands
