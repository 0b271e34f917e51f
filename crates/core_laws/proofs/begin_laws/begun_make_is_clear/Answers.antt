use Rattle.core_laws.proofs.BeginLemmas.{make_clear}
use Rattle.core_laws.proofs.begin_laws.begun_make_is_clear.Goals as goal

pub returns : goal.returns
returns c = make_clear
