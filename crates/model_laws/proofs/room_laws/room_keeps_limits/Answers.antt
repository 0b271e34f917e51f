use Rattle.model_laws.proofs.RoomLemmas.{history_roomy}
use Rattle.model_laws.proofs.room_laws.room_keeps_limits.Goals as goal

pub returns : goal.returns
returns c = history_roomy
