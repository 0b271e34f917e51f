use Rattle.model_laws.proofs.RunLemmas.{gone_make_later}
use Rattle.model_laws.proofs.run_laws.gone_make_never_changes.Goals as goal

pub returns : goal.returns
returns c = gone_make_later
