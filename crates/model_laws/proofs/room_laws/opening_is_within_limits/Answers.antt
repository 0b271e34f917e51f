use Rattle.model_laws.proofs.RoomLemmas.{opened_roomy}
use Rattle.model_laws.proofs.room_laws.opening_is_within_limits.Goals as goal

pub returns : goal.returns
returns c = opened_roomy
