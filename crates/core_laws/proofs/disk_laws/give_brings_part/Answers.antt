use Rattle.core_laws.proofs.PlaceLemmas.{give_brings}
use Rattle.core_laws.proofs.disk_laws.give_brings_part.Goals as goal

pub returns : goal.returns
returns c = give_brings
