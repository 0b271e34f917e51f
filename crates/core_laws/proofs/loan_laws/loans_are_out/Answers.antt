use Rattle.core_laws.proofs.LoanLemmas.{jobs_out}
use Rattle.core_laws.proofs.loan_laws.loans_are_out.Goals as goal

pub returns : goal.returns
returns c = jobs_out
