use Rattle.core_laws.proofs.PlaceLemmas.{take_clears}
use Rattle.core_laws.proofs.disk_laws.take_leaves_nothing.Goals as goal

pub returns : goal.returns
returns c = take_clears
