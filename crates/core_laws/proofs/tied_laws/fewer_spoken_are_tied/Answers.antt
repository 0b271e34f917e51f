use Rattle.core_laws.proofs.TiedLemmas.{fewer_spoken}
use Rattle.core_laws.proofs.tied_laws.fewer_spoken_are_tied.Goals as goal

pub returns : goal.returns
returns c = fewer_spoken
