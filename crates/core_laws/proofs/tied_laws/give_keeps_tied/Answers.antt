use Rattle.core_laws.proofs.TiedLemmas.{give_tied}
use Rattle.core_laws.proofs.tied_laws.give_keeps_tied.Goals as goal

pub returns : goal.returns
returns c = give_tied
