use Rattle.core_laws.proofs.CoveredLemmas.{bare_nodes}
use Rattle.core_laws.proofs.covered_laws.bare_give_keeps_nodes.Goals as goal

pub returns : goal.returns
returns c = bare_nodes
