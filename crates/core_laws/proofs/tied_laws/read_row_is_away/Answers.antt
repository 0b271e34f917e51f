use Rattle.core_laws.proofs.TiedLemmas.{read_away}
use Rattle.core_laws.proofs.tied_laws.read_row_is_away.Goals as goal

pub returns : goal.returns
returns c = read_away
