use Rattle.model_laws.proofs.BelowLemmas.{bare_below}
use Rattle.model_laws.proofs.ticket_laws.open_ticket_is_below_bare_path.Goals as goal

pub returns : goal.returns
returns c = bare_below
