use Rattle.core_laws.proofs.BeginLemmas.{part_free}
use Rattle.core_laws.proofs.begin_laws.begun_part_is_not_lent.Goals as goal

pub returns : goal.returns
returns c = part_free
