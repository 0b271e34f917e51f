use Rattle.model_laws.proofs.GateLemmas.{history_gated}
use Rattle.model_laws.proofs.laws.history_keeps_gate.Goals as goal

pub returns : goal.returns
returns c = history_gated
