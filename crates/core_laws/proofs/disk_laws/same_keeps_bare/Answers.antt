use Rattle.core_laws.proofs.LoanLemmas.{bare_stays}
use Rattle.core_laws.proofs.disk_laws.same_keeps_bare.Goals as goal

pub returns : goal.returns
returns c = bare_stays
