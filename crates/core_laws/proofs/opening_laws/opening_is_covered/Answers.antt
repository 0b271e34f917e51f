use Rattle.core_laws.proofs.OpeningLemmas.{opening_covered}
use Rattle.core_laws.proofs.opening_laws.opening_is_covered.Goals as goal

pub returns : goal.returns
returns c = opening_covered
