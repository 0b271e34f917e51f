use Rattle.mat_core.proofs.ServeLemmas.{same_parts, unchanged_serves}
use Rattle.mat_core.proofs.parts.Parts.want.Goals as goal

pub returns : goal.returns
returns g c number request = unchanged_serves number request c.args.self.now c.args.self.now (same_parts c.args.self.now)
