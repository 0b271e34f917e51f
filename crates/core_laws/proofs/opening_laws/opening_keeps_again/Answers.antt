use Rattle.core_laws.proofs.OpeningLemmas.{opening_again}
use Rattle.core_laws.proofs.opening_laws.opening_keeps_again.Goals as goal

pub returns : goal.returns
returns c = opening_again
