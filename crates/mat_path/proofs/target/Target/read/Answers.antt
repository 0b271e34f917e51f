use Rattle.std.proofs.Common.{sym}
use Rattle.mat_path.proofs.NameLemmas.{unrefused_is_target, no_target}
use Rattle.mat_path.proofs.ReadLemmas.{on_some}
use Rattle.mat_path.proofs.target.Target.read.Goals as goal

pub invariant_of-result : goal.invariant_of-result
invariant_of-result c = unrefused_is_target c.args.bytes.now c.in-Ok.bytes.items c.in-Ok.ensures.items (sym c.in-None.ensures)

pub returns-in-Some-clause-only : goal.returns-in-Some-clause-only
returns-in-Some-clause-only c = on_some _ _ (no_target c.args.bytes.now c.in-Some.refusal (sym c.in-Some.ensures))
