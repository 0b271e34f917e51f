use Rattle.core_laws.proofs.CoveredLemmas.{take_rough}
use Rattle.core_laws.proofs.covered_laws.take_keeps_rough.Goals as goal

pub returns : goal.returns
returns c = take_rough
