use Rattle.std.proofs.Common.{sym, ◌∙◌}
use Rattle.mat_path.proofs.NameLemmas.{unrefused_is_name, no_name, name_refusal_is_of_text}
use Rattle.mat_path.proofs.ReadLemmas.{on_some}
use Rattle.mat_path.proofs.name.Name.read.Goals as goal

pub named-requires : goal.named-requires
named-requires c = unrefused_is_name c.args.bytes.now (sym c.in-None.ensures)

pub returns-in-Some-clause-only : goal.returns-in-Some-clause-only
returns-in-Some-clause-only c = on_some _ _ (no_name c.args.bytes.now c.in-Some.refusal (sym c.in-Some.ensures))

pub returns-in-Some-clause-exact : goal.returns-in-Some-clause-exact
returns-in-Some-clause-exact c = name_refusal_is_of_text c.args.bytes.now c.in-Some.refusal (sym c.in-Some.ensures) ∙ c.in-Some.ensures
