use Rattle.core_laws.proofs.TiedLemmas.{debris_clear}
use Rattle.core_laws.proofs.tied_laws.debris_is_clear.Goals as goal

pub returns : goal.returns
returns c = debris_clear
