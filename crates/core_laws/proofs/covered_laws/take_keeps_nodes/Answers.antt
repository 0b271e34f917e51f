use Rattle.core_laws.proofs.CoveredLemmas.{take_nodes}
use Rattle.core_laws.proofs.covered_laws.take_keeps_nodes.Goals as goal

pub returns : goal.returns
returns c = take_nodes
