use Rattle.mat_core.proofs.EventLemmas.{seen_begun}
use Rattle.mat_core.proofs.laws.begin_keeps_core.Goals as goal

pub returns : goal.returns
returns g c told stored seen entry begun disk keeper paths is legal = seen_begun told stored seen is entry legal begun disk keeper paths
