use Rattle.mat_path.proofs.Overlaps.{strictly_above_stays}
use Rattle.mat_path.proofs.covering_laws.strictly_above_goes_up.Goals as goal

pub returns : goal.returns
returns c = strictly_above_stays
