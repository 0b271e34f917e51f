use Rattle.mat_path.proofs.CoveringLemmas.{covering-append}
use Rattle.mat_path.proofs.covering_laws.covering_adds.Goals as goal

pub returns : goal.returns
returns c = covering-append
