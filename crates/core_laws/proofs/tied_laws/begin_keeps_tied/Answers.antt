use Rattle.core_laws.proofs.TiedLemmas.{begin_tied}
use Rattle.core_laws.proofs.tied_laws.begin_keeps_tied.Goals as goal

pub returns : goal.returns
returns c = begin_tied
