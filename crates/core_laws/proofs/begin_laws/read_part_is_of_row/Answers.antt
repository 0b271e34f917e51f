use Rattle.core_laws.proofs.BeginLemmas.{source_of}
use Rattle.core_laws.proofs.begin_laws.read_part_is_of_row.Goals as goal

pub returns : goal.returns
returns c = source_of
