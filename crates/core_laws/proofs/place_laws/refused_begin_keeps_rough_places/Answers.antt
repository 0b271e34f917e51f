use Rattle.core_laws.proofs.EndLemmas.{refused_rough}
use Rattle.core_laws.proofs.place_laws.refused_begin_keeps_rough_places.Goals as goal

pub returns : goal.returns
returns c = refused_rough
