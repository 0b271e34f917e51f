use Rattle.core_laws.proofs.CoveredLemmas.{kept_rough}
use Rattle.core_laws.proofs.covered_laws.kept_places_keep_rough.Goals as goal

pub returns : goal.returns
returns c = kept_rough
