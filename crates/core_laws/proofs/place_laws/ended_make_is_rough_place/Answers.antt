use Rattle.core_laws.proofs.EndLemmas.{end_make_rough}
use Rattle.core_laws.proofs.place_laws.ended_make_is_rough_place.Goals as goal

pub returns : goal.returns
returns c = end_make_rough
