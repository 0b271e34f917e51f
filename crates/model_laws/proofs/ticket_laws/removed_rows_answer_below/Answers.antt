use Rattle.model_laws.proofs.BelowLemmas.{removed_answer}
use Rattle.model_laws.proofs.ticket_laws.removed_rows_answer_below.Goals as goal

pub returns : goal.returns
returns c = removed_answer
