use Rattle.core_laws.proofs.BeginLemmas.{begin_work}
use Rattle.core_laws.proofs.begin_laws.begin_starts_job.Goals as goal

pub returns : goal.returns
returns c = begin_work
