use Rattle.core_laws.proofs.BeginLemmas.{refused_jobs}
use Rattle.core_laws.proofs.begin_laws.refused_begin_keeps_jobs.Goals as goal

pub returns : goal.returns
returns c = refused_jobs
