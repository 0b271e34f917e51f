use Rattle.core_laws.proofs.PlacesLemmas.{request_rough}
use Rattle.core_laws.proofs.place_laws.request_keeps_rough_places.Goals as goal

pub returns : goal.returns
returns c = request_rough
