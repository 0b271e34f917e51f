use Rattle.keep_port.proofs.Places.{remove_leaves}
use Rattle.keep_port.proofs.laws.remove_leaves_others.Goals as goal

pub returns : goal.returns
returns c = remove_leaves
