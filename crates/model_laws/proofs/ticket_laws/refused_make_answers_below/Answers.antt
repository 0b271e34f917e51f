use Rattle.model_laws.proofs.EndsBelow.{refused_make_below}
use Rattle.model_laws.proofs.ticket_laws.refused_make_answers_below.Goals as goal

pub returns : goal.returns
returns c = refused_make_below
