use Rattle.model_laws.proofs.OpenLemmas.{finish_fewer_open}
use Rattle.model_laws.proofs.laws.first_make_answers.Goals as goal

pub returns : goal.returns
returns c = finish_fewer_open
