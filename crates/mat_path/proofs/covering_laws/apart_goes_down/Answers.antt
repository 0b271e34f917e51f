use Rattle.mat_path.proofs.Overlaps.{apart_below}
use Rattle.mat_path.proofs.covering_laws.apart_goes_down.Goals as goal

pub returns : goal.returns
returns c = apart_below
