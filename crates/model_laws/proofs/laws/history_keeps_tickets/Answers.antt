use Rattle.model_laws.proofs.TicketLemmas.{history_kept}
use Rattle.model_laws.proofs.laws.history_keeps_tickets.Goals as goal

pub returns : goal.returns
returns c = history_kept
