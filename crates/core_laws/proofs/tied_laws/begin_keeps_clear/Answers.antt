use Rattle.core_laws.proofs.TiedLemmas.{begin_clear}
use Rattle.core_laws.proofs.tied_laws.begin_keeps_clear.Goals as goal

pub returns : goal.returns
returns c = begin_clear
