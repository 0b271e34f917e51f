use Rattle.mat_core.proofs.ChoosingLemmas.{chosen_found, chosen_want, ruled_next}
use Rattle.mat_core.proofs.parts.Parts.first_task.Goals as goal

pub choose-requires : goal.choose-requires
choose-requires g c = ruled_next _ c.args.self.now c.requires.bound c.requires.rules

pub returns-clause-found : goal.returns-clause-found
returns-clause-found g c = chosen_found c.args.self.now c.choose.result c.choose.ensures.found

pub returns-clause-want : goal.returns-clause-want
returns-clause-want g c = chosen_want c.args.self.now c.choose.result c.choose.ensures.want
