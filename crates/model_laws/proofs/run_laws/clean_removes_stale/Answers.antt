use Rattle.model_laws.proofs.RunLemmas.{clean_removes}
use Rattle.model_laws.proofs.run_laws.clean_removes_stale.Goals as goal

pub returns : goal.returns
returns c = clean_removes
