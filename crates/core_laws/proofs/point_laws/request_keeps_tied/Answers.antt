use Rattle.core_laws.proofs.PointMoves.{request_tied}
use Rattle.core_laws.proofs.point_laws.request_keeps_tied.Goals as goal

pub returns : goal.returns
returns c = request_tied
