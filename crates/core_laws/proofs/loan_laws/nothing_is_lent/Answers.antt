use Rattle.core_laws.proofs.LoanLemmas.{no_loans}
use Rattle.core_laws.proofs.loan_laws.nothing_is_lent.Goals as goal

pub returns : goal.returns
returns c = no_loans
