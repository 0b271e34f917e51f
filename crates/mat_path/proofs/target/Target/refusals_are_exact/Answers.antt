use Rattle.mat_path.proofs.NameLemmas.{target_is}
use Rattle.mat_path.proofs.target.Target.refusals_are_exact.Goals as goal

pub returns : goal.returns
returns c = target_is c.args.text.now
