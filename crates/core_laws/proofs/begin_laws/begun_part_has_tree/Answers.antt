use Rattle.core_laws.proofs.BeginLemmas.{part_tree}
use Rattle.core_laws.proofs.begin_laws.begun_part_has_tree.Goals as goal

pub returns : goal.returns
returns c = part_tree
