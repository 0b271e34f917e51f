use Rattle.mat_core.proofs.EventLemmas.{seen_ended}
use Rattle.mat_core.proofs.laws.end_keeps_core.Goals as goal

pub returns : goal.returns
returns g c told stored seen entry number out job inner part its of_part disk keeper is legal =
    seen_ended told stored seen is entry legal number out job inner part its of_part disk keeper
