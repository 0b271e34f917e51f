use Rattle.model_laws.proofs.BelowLemmas.{clean_answers_none}
use Rattle.model_laws.proofs.ticket_laws.clean_answers_nobody.Goals as goal

pub returns : goal.returns
returns c = clean_answers_none
