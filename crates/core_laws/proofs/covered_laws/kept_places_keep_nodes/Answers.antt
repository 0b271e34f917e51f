use Rattle.core_laws.proofs.CoveredLemmas.{kept_nodes}
use Rattle.core_laws.proofs.covered_laws.kept_places_keep_nodes.Goals as goal

pub returns : goal.returns
returns c = kept_nodes
