use Rattle.model_laws.proofs.TicketLemmas.{history_answer}
use Rattle.model_laws.proofs.laws.answer_stays.Goals as goal

pub returns : goal.returns
returns c = history_answer
