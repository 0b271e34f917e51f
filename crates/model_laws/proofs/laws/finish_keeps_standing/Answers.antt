use Rattle.model_laws.proofs.StandingLemmas.{finish_stands}
use Rattle.model_laws.proofs.laws.finish_keeps_standing.Goals as goal

pub returns : goal.returns
returns c = finish_stands
