use Rattle.core_laws.proofs.OpeningLemmas.{settled_within}
use Rattle.core_laws.proofs.opening_laws.settled_is_within.Goals as goal

pub returns : goal.returns
returns c = settled_within
