use Rattle.model_laws.proofs.BelowLemmas.{invalid_answer}
use Rattle.model_laws.proofs.ticket_laws.invalid_rows_answer_below.Goals as goal

pub returns : goal.returns
returns c = invalid_answer
