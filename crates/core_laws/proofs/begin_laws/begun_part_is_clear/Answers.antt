use Rattle.core_laws.proofs.BeginLemmas.{part_clear}
use Rattle.core_laws.proofs.begin_laws.begun_part_is_clear.Goals as goal

pub returns : goal.returns
returns c = part_clear
