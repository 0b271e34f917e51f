use Rattle.core_laws.proofs.WholeLemmas.{stay_whole}
use Rattle.core_laws.proofs.whole_laws.kept_rows_stay_whole.Goals as goal

pub returns : goal.returns
returns c = stay_whole
