use Rattle.core_laws.proofs.EndLemmas.{end_part_place}
use Rattle.core_laws.proofs.place_laws.returned_part_is_node_place.Goals as goal

pub returns : goal.returns
returns c = end_part_place
