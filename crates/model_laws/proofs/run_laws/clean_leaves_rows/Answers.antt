use Rattle.model_laws.proofs.RunLemmas.{clean_leaves}
use Rattle.model_laws.proofs.run_laws.clean_leaves_rows.Goals as goal

pub returns : goal.returns
returns c = clean_leaves
