use Rattle.core_laws.proofs.WholeLemmas.{lent_whole}
use Rattle.core_laws.proofs.whole_laws.lent_give_keeps_whole.Goals as goal

pub returns : goal.returns
returns c = lent_whole
