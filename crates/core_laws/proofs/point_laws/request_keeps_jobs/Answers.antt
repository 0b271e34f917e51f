use Rattle.core_laws.proofs.PointMoves.{request_jobs}
use Rattle.core_laws.proofs.point_laws.request_keeps_jobs.Goals as goal

pub returns : goal.returns
returns c = request_jobs
