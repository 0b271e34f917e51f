use Rattle.model_laws.proofs.FirstLemmas.{none_first}
use Rattle.model_laws.proofs.first_laws.nothing_first_is_drained.Goals as goal

pub returns : goal.returns
returns c = none_first
