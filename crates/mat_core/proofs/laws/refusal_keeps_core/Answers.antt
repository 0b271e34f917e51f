use Rattle.mat_core.proofs.EventLemmas.{seen_refused}
use Rattle.mat_core.proofs.laws.refusal_keeps_core.Goals as goal

pub returns : goal.returns
returns g c told stored seen entry begun note disk keeper is legal = seen_refused told stored seen is entry legal begun note disk keeper
