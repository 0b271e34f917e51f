use Rattle.core_laws.proofs.CountLemmas.{rose_noted}
use Rattle.core_laws.proofs.count_laws.risen_count_is_noted.Goals as goal

pub returns : goal.returns
returns c = rose_noted
