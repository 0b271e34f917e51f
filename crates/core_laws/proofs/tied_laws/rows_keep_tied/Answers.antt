use Rattle.core_laws.proofs.TiedLemmas.{rows_tied}
use Rattle.core_laws.proofs.tied_laws.rows_keep_tied.Goals as goal

pub returns : goal.returns
returns c = rows_tied
