use Rattle.core_laws.proofs.CoveredLemmas.{settled_rough}
use Rattle.core_laws.proofs.covered_laws.settled_give_keeps_rough.Goals as goal

pub returns : goal.returns
returns c = settled_rough
