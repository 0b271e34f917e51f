use Rattle.core_laws.proofs.CrashLemmas.{none_returned}
use Rattle.core_laws.proofs.crash_laws.nothing_is_returned.Goals as goal

pub returns : goal.returns
returns c = none_returned
