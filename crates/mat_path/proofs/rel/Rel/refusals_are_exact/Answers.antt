use Rattle.mat_path.proofs.ReadLemmas.{rel_is}
use Rattle.mat_path.proofs.rel.Rel.refusals_are_exact.Goals as goal

pub returns : goal.returns
returns c = rel_is c.args.text.now
