use Rattle.core_laws.proofs.ImageLemmas.{standing_whole}
use Rattle.core_laws.proofs.whole_laws.standing_row_is_whole.Goals as goal

pub returns : goal.returns
returns c = standing_whole
