use Rattle.core_laws.proofs.CountLemmas.{more_counted}
use Rattle.core_laws.proofs.count_laws.more_faults_are_counted.Goals as goal

pub returns : goal.returns
returns c = more_counted
