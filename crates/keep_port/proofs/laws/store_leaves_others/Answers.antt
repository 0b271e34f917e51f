use Rattle.keep_port.proofs.Places.{store_leaves}
use Rattle.keep_port.proofs.laws.store_leaves_others.Goals as goal

pub returns : goal.returns
returns c = store_leaves
