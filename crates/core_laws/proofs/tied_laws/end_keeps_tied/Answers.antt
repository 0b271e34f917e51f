use Rattle.core_laws.proofs.TiedLemmas.{end_tied}
use Rattle.core_laws.proofs.tied_laws.end_keeps_tied.Goals as goal

pub returns : goal.returns
returns c = end_tied
