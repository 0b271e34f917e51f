use Rattle.core_laws.proofs.WholeLemmas.{more_lent_whole}
use Rattle.core_laws.proofs.whole_laws.more_loans_keep_whole.Goals as goal

pub returns : goal.returns
returns c = more_lent_whole
