use Rattle.core_laws.proofs.LoanLemmas.{begin_loans}
use Rattle.core_laws.proofs.loan_laws.begin_keeps_loans.Goals as goal

pub returns : goal.returns
returns c = begin_loans
