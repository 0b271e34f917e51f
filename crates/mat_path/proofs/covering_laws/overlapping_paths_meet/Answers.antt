use Rattle.mat_path.proofs.Overlaps.{overlap_meets}
use Rattle.mat_path.proofs.covering_laws.overlapping_paths_meet.Goals as goal

pub returns : goal.returns
returns c = overlap_meets
