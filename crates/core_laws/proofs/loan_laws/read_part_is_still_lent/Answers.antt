use Rattle.core_laws.proofs.LoanLemmas.{part_still_lent}
use Rattle.core_laws.proofs.loan_laws.read_part_is_still_lent.Goals as goal

pub returns : goal.returns
returns c = part_still_lent
