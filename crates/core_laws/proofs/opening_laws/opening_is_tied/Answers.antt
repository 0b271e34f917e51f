use Rattle.core_laws.proofs.OpeningLemmas.{opening_tied}
use Rattle.core_laws.proofs.opening_laws.opening_is_tied.Goals as goal

pub returns : goal.returns
returns c = opening_tied
