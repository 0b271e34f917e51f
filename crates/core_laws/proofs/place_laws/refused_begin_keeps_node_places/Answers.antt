use Rattle.core_laws.proofs.EndLemmas.{refused_nodes}
use Rattle.core_laws.proofs.place_laws.refused_begin_keeps_node_places.Goals as goal

pub returns : goal.returns
returns c = refused_nodes
