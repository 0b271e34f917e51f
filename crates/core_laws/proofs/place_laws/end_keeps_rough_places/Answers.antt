use Rattle.core_laws.proofs.EndLemmas.{end_rough}
use Rattle.core_laws.proofs.place_laws.end_keeps_rough_places.Goals as goal

pub returns : goal.returns
returns c = end_rough
