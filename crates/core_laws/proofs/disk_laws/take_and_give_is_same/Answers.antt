use Rattle.core_laws.proofs.PlaceLemmas.{back_again}
use Rattle.core_laws.proofs.disk_laws.take_and_give_is_same.Goals as goal

pub returns : goal.returns
returns c = back_again
