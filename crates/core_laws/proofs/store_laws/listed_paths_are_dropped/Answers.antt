use Rattle.core_laws.proofs.StoreSteps.{listed_dropped, none_dropped}
use Rattle.core_laws.proofs.store_laws.listed_paths_are_dropped.Goals as goal

pub returns-clause-some : goal.returns-clause-some
returns-clause-some c = listed_dropped

pub returns-clause-none : goal.returns-clause-none
returns-clause-none c = none_dropped
