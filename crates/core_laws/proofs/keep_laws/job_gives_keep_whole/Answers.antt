use Rattle.core_laws.proofs.KeepMoves.{gives_whole}
use Rattle.core_laws.proofs.keep_laws.job_gives_keep_whole.Goals as goal

pub returns : goal.returns
returns c = gives_whole
