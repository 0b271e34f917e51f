use Rattle.model_laws.proofs.BelowLemmas.{rows_answer}
use Rattle.model_laws.proofs.ticket_laws.failed_rows_answer_below.Goals as goal

pub returns : goal.returns
returns c = rows_answer
