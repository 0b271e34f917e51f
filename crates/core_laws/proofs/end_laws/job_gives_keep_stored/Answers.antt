use Rattle.core_laws.proofs.EndMoves.{unstored}
use Rattle.core_laws.proofs.end_laws.job_gives_keep_stored.Goals as goal

pub returns : goal.returns
returns c = unstored
