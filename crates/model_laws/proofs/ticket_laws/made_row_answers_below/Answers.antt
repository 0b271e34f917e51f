use Rattle.model_laws.proofs.BelowLemmas.{row_answers}
use Rattle.model_laws.proofs.ticket_laws.made_row_answers_below.Goals as goal

pub returns : goal.returns
returns c = row_answers
