use Rattle.core_laws.proofs.WholeLemmas.{same_whole}
use Rattle.core_laws.proofs.whole_laws.same_keeps_whole.Goals as goal

pub returns : goal.returns
returns c = same_whole
