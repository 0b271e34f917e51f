use Rattle.core_laws.proofs.LoanLemmas.{take_out}
use Rattle.core_laws.proofs.loan_laws.take_keeps_out.Goals as goal

pub returns : goal.returns
returns c = take_out
