use Rattle.model_laws.proofs.TicketLemmas.{serve_kept}
use Rattle.model_laws.proofs.laws.serve_keeps_tickets.Goals as goal

pub returns : goal.returns
returns c = serve_kept
