use Rattle.core_laws.proofs.PlacesLemmas.{begin_nodes}
use Rattle.core_laws.proofs.place_laws.begin_keeps_node_places.Goals as goal

pub returns : goal.returns
returns c = begin_nodes
