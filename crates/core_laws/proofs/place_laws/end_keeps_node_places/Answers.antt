use Rattle.core_laws.proofs.EndLemmas.{end_nodes}
use Rattle.core_laws.proofs.place_laws.end_keeps_node_places.Goals as goal

pub returns : goal.returns
returns c = end_nodes
