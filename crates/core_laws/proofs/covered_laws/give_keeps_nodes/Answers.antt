use Rattle.core_laws.proofs.CoveredLemmas.{give_nodes}
use Rattle.core_laws.proofs.covered_laws.give_keeps_nodes.Goals as goal

pub returns : goal.returns
returns c = give_nodes
