use Rattle.core_laws.proofs.LoanLemmas.{give_out}
use Rattle.core_laws.proofs.loan_laws.give_keeps_out.Goals as goal

pub returns : goal.returns
returns c = give_out
