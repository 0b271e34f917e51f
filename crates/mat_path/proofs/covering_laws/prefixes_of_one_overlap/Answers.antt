use Rattle.mat_path.proofs.Overlaps.{overlap_of_prefixes}
use Rattle.mat_path.proofs.covering_laws.prefixes_of_one_overlap.Goals as goal

pub returns : goal.returns
returns c = overlap_of_prefixes
