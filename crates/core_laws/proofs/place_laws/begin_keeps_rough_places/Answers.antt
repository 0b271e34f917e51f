use Rattle.core_laws.proofs.PlacesLemmas.{begin_rough}
use Rattle.core_laws.proofs.place_laws.begin_keeps_rough_places.Goals as goal

pub returns : goal.returns
returns c = begin_rough
