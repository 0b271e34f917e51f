use Rattle.core_laws.proofs.CountLemmas.{none_counted}
use Rattle.core_laws.proofs.count_laws.nothing_is_counted.Goals as goal

pub returns : goal.returns
returns c = none_counted
