use Rattle.core_laws.proofs.CountLemmas.{note_apart}
use Rattle.core_laws.proofs.count_laws.counted_note_is_apart.Goals as goal

pub returns : goal.returns
returns c = note_apart
