use Rattle.core_laws.proofs.LoanLemmas.{fewer_apart}
use Rattle.core_laws.proofs.loan_laws.fewer_loans_are_apart.Goals as goal

pub returns : goal.returns
returns c = fewer_apart
