use Rattle.core_laws.proofs.CrashLemmas.{job_returned}
use Rattle.core_laws.proofs.crash_laws.job_is_returned.Goals as goal

pub returns : goal.returns
returns c = job_returned
