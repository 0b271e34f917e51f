use Rattle.core_laws.proofs.TiedLemmas.{away_clear}
use Rattle.core_laws.proofs.tied_laws.away_row_is_clear.Goals as goal

pub returns : goal.returns
returns c = away_clear
