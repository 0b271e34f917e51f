use Rattle.model_laws.proofs.AnsweredLemmas.{finish_true}
use Rattle.model_laws.proofs.laws.finish_answers_truly.Goals as goal

pub returns : goal.returns
returns c = finish_true
