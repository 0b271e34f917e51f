use Rattle.model_laws.proofs.ApartLemmas.{finish_apart}
use Rattle.model_laws.proofs.laws.finish_keeps_apart.Goals as goal

pub returns : goal.returns
returns c = finish_apart
