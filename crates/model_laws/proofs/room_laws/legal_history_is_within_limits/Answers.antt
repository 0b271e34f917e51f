use Rattle.model_laws.proofs.RoomLemmas.{legal_roomy}
use Rattle.model_laws.proofs.room_laws.legal_history_is_within_limits.Goals as goal

pub returns : goal.returns
returns c = legal_roomy
