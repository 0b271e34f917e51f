use Rattle.model_laws.proofs.EndsBelow.{failed_wipe_below}
use Rattle.model_laws.proofs.ticket_laws.failed_wipe_answers_below.Goals as goal

pub returns : goal.returns
returns c = failed_wipe_below
