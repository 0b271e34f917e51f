use Rattle.model_laws.proofs.ApartLemmas.{serve_apart}
use Rattle.model_laws.proofs.laws.serve_keeps_apart.Goals as goal

pub returns : goal.returns
returns c = serve_apart
