use Rattle.mat_path.proofs.CoveringLemmas.{covering-taken_out}
use Rattle.mat_path.proofs.covering_laws.covering_falls.Goals as goal

pub returns : goal.returns
returns c = covering-taken_out
