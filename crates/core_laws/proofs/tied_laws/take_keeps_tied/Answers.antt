use Rattle.core_laws.proofs.TiedLemmas.{take_tied}
use Rattle.core_laws.proofs.tied_laws.take_keeps_tied.Goals as goal

pub returns : goal.returns
returns c = take_tied
