use Rattle.model_laws.proofs.BelowLemmas.{overlapping_answer}
use Rattle.model_laws.proofs.ticket_laws.overlapping_rows_answer_below.Goals as goal

pub returns : goal.returns
returns c = overlapping_answer
