use Rattle.core_laws.proofs.LoanLemmas.{end_loans}
use Rattle.core_laws.proofs.loan_laws.end_keeps_loans.Goals as goal

pub returns : goal.returns
returns c = end_loans
