use Rattle.model_laws.proofs.AnsweredLemmas.{serve_true}
use Rattle.model_laws.proofs.laws.serve_answers_truly.Goals as goal

pub returns : goal.returns
returns c = serve_true
