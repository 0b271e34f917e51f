use Rattle.mat_path.proofs.CoveringLemmas.{covering_insert-apart}
use Rattle.mat_path.proofs.covering_laws.apart_is_covered_once.Goals as goal

pub returns : goal.returns
returns c = covering_insert-apart
