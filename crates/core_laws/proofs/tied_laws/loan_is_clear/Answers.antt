use Rattle.core_laws.proofs.TiedLemmas.{loan_clear}
use Rattle.core_laws.proofs.tied_laws.loan_is_clear.Goals as goal

pub returns : goal.returns
returns c = loan_clear
