use Rattle.model_laws.proofs.DeclaredLemmas.{write_declared}
use Rattle.model_laws.proofs.laws.write_is_declared.Goals as goal

pub returns : goal.returns
returns c = write_declared
