use Rattle.core_laws.proofs.CoveredLemmas.{give_rough}
use Rattle.core_laws.proofs.covered_laws.give_keeps_rough.Goals as goal

pub returns : goal.returns
returns c = give_rough
