use Rattle.model_laws.proofs.BelowLemmas.{replaced_answer}
use Rattle.model_laws.proofs.ticket_laws.replaced_rows_answer_below.Goals as goal

pub returns : goal.returns
returns c = replaced_answer
