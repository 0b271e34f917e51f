use Rattle.core_laws.proofs.BeginLemmas.{begin_rows}
use Rattle.core_laws.proofs.begin_laws.begin_keeps_rows.Goals as goal

pub returns : goal.returns
returns c = begin_rows
