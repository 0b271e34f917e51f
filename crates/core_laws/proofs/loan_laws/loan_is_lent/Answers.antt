use Rattle.core_laws.proofs.LoanLemmas.{loan_lent}
use Rattle.core_laws.proofs.loan_laws.loan_is_lent.Goals as goal

pub returns : goal.returns
returns c = loan_lent
