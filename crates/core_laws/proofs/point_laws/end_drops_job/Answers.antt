use Rattle.core_laws.proofs.PointMoves.{end_jobs}
use Rattle.core_laws.proofs.point_laws.end_drops_job.Goals as goal

pub returns : goal.returns
returns c = end_jobs
