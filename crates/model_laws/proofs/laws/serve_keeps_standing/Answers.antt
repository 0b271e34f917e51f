use Rattle.model_laws.proofs.StandingLemmas.{serve_stands}
use Rattle.model_laws.proofs.laws.serve_keeps_standing.Goals as goal

pub returns : goal.returns
returns c = serve_stands
