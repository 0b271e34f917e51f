use Rattle.mat_path.proofs.CoveringLemmas.{covering-map}
use Rattle.mat_path.proofs.covering_laws.covering_is_kept.Goals as goal

pub returns : goal.returns
returns c = covering-map
