use Rattle.model_laws.proofs.FirstLemmas.{wipe_may_begin}
use Rattle.model_laws.proofs.first_laws.first_wipe_may_begin.Goals as goal

pub returns : goal.returns
returns c = wipe_may_begin
