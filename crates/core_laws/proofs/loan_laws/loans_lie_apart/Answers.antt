use Rattle.core_laws.proofs.LoanLemmas.{lent_apart}
use Rattle.core_laws.proofs.loan_laws.loans_lie_apart.Goals as goal

pub returns : goal.returns
returns c = lent_apart
