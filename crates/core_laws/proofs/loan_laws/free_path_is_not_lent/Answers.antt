use Rattle.core_laws.proofs.LoanLemmas.{free_path}
use Rattle.core_laws.proofs.loan_laws.free_path_is_not_lent.Goals as goal

pub returns : goal.returns
returns c = free_path
