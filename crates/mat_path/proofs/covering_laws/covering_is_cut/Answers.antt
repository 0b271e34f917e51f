use Rattle.mat_path.proofs.CoveringLemmas.{covering-split}
use Rattle.mat_path.proofs.covering_laws.covering_is_cut.Goals as goal

pub returns : goal.returns
returns c = covering-split
