use Rattle.core_laws.proofs.PlaceLemmas.{give_aside}
use Rattle.core_laws.proofs.disk_laws.give_leaves_others.Goals as goal

pub returns : goal.returns
returns c = give_aside
