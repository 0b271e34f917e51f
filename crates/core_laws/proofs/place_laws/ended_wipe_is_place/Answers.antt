use Rattle.core_laws.proofs.EndLemmas.{end_wipe_place}
use Rattle.core_laws.proofs.place_laws.ended_wipe_is_place.Goals as goal

pub returns : goal.returns
returns c = end_wipe_place
