use Rattle.core_laws.proofs.PlacesLemmas.{request_nodes}
use Rattle.core_laws.proofs.place_laws.request_keeps_node_places.Goals as goal

pub returns : goal.returns
returns c = request_nodes
