use Rattle.model_laws.proofs.GateLemmas.{serve_gated}
use Rattle.model_laws.proofs.laws.serve_keeps_gate.Goals as goal

pub returns : goal.returns
returns c = serve_gated
