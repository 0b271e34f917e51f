use Rattle.mat_path.proofs.CoveringLemmas.{covering-around}
use Rattle.mat_path.proofs.covering_laws.covered_once_is_apart.Goals as goal

pub returns : goal.returns
returns c = covering-around
