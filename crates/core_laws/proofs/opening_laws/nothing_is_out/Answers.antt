use Rattle.core_laws.proofs.OpeningLemmas.{none_out}
use Rattle.core_laws.proofs.opening_laws.nothing_is_out.Goals as goal

pub returns : goal.returns
returns c = none_out
