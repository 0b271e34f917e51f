use Rattle.model_laws.proofs.FirstLemmas.{make_may_begin}
use Rattle.model_laws.proofs.first_laws.first_make_may_begin.Goals as goal

pub returns : goal.returns
returns c = make_may_begin
