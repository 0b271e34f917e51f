use Rattle.model_laws.proofs.EndsBelow.{refused_wipe_below}
use Rattle.model_laws.proofs.ticket_laws.refused_wipe_answers_below.Goals as goal

pub returns : goal.returns
returns c = refused_wipe_below
