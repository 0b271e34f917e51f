use Rattle.mat_path.proofs.CoveringLemmas.{covering-insert}
use Rattle.mat_path.proofs.covering_laws.covering_grows.Goals as goal

pub returns : goal.returns
returns c = covering-insert
