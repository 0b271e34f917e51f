use Rattle.core_laws.proofs.PointMoves.{end_rows}
use Rattle.core_laws.proofs.point_laws.end_leaves_rows.Goals as goal

pub returns : goal.returns
returns c = end_rows
