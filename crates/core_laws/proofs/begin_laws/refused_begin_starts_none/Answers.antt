use Rattle.core_laws.proofs.BeginLemmas.{begin_refused}
use Rattle.core_laws.proofs.begin_laws.refused_begin_starts_none.Goals as goal

pub returns : goal.returns
returns c = begin_refused
