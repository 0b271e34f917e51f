use Rattle.model_laws.proofs.EndsBelow.{made_below}
use Rattle.model_laws.proofs.ticket_laws.made_make_answers_below.Goals as goal

pub returns : goal.returns
returns c = made_below
