use Rattle.core_laws.proofs.PlaceLemmas.{take_aside}
use Rattle.core_laws.proofs.disk_laws.take_leaves_others.Goals as goal

pub returns : goal.returns
returns c = take_aside
