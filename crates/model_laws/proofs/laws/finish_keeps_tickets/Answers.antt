use Rattle.model_laws.proofs.TicketLemmas.{finish_kept}
use Rattle.model_laws.proofs.laws.finish_keeps_tickets.Goals as goal

pub returns : goal.returns
returns c = finish_kept
