use Rattle.model_laws.proofs.RunLemmas.{gone_make}
use Rattle.model_laws.proofs.run_laws.gone_make_changes_nothing.Goals as goal

pub returns : goal.returns
returns c = gone_make
