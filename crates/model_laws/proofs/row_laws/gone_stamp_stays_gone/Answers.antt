use Rattle.model_laws.proofs.StampLemmas.{stamp_gone}
use Rattle.model_laws.proofs.row_laws.gone_stamp_stays_gone.Goals as goal

pub returns : goal.returns
returns c = stamp_gone
