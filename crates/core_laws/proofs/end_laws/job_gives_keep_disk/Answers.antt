use Rattle.core_laws.proofs.EndMoves.{gives_disk}
use Rattle.core_laws.proofs.end_laws.job_gives_keep_disk.Goals as goal

pub returns : goal.returns
returns c = gives_disk
