use Rattle.core_laws.proofs.CountLemmas.{entry_counted}
use Rattle.core_laws.proofs.count_laws.entry_is_counted.Goals as goal

pub returns : goal.returns
returns c = entry_counted
