use Rattle.model_laws.proofs.EndsBelow.{failed_below}
use Rattle.model_laws.proofs.ticket_laws.failed_make_answers_below.Goals as goal

pub returns : goal.returns
returns c = failed_below
