use Rattle.model_laws.proofs.BelowLemmas.{above_covers}
use Rattle.model_laws.proofs.ticket_laws.row_above_open_ticket_covers.Goals as goal

pub returns : goal.returns
returns c = above_covers
