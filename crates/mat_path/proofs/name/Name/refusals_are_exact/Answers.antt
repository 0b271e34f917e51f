use Rattle.mat_path.proofs.NameLemmas.{name_is}
use Rattle.mat_path.proofs.name.Name.refusals_are_exact.Goals as goal

pub returns : goal.returns
returns c = name_is c.args.text.now
