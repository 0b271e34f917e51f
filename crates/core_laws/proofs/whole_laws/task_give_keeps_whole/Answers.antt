use Rattle.core_laws.proofs.WholeLemmas.{task_whole}
use Rattle.core_laws.proofs.whole_laws.task_give_keeps_whole.Goals as goal

pub returns : goal.returns
returns c = task_whole
