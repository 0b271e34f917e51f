use Rattle.core_laws.proofs.CountLemmas.{fault_counted}
use Rattle.core_laws.proofs.count_laws.disk_fault_is_counted.Goals as goal

pub returns : goal.returns
returns c = fault_counted
