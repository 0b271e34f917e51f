use Rattle.mat_path.proofs.CoveringRows.{covering_rows-cut}
use Rattle.mat_path.proofs.covering_laws.covering_of_rows_is_cut.Goals as goal

pub returns : goal.returns
returns g c = covering_rows-cut
