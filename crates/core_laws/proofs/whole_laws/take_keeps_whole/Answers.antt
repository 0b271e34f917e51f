use Rattle.core_laws.proofs.WholeLemmas.{take_whole}
use Rattle.core_laws.proofs.whole_laws.take_keeps_whole.Goals as goal

pub returns : goal.returns
returns c = take_whole
