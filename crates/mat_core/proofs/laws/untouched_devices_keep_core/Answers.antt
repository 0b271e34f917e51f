use Rattle.mat_core.proofs.EventLemmas.{seen_again}
use Rattle.mat_core.proofs.laws.untouched_devices_keep_core.Goals as goal

pub returns : goal.returns
returns g c told stored seen disk keeper is = seen_again told stored seen is disk keeper
