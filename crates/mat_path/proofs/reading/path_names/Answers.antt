use Rattle.std.proofs.Common.{sym, ◌∙◌}
use Rattle.mat_path.proofs.ReadLemmas.{pieces_are_names, names_are_path, read_as_pieces, no_path, on_some, path_refusal_is_of_text}
use Rattle.mat_path.proofs.reading.path_names.Goals as goal

pub names_of-requires : goal.names_of-requires
names_of-requires c = pieces_are_names c.args.text.now (sym c.in-None.ensures)

pub returns-in-Ok-clause-path : goal.returns-in-Ok-clause-path
returns-in-Ok-clause-path c = names_are_path c.args.text.now _ c.in-Ok.ensures.ok (sym c.in-None.ensures)

pub returns-in-Some-clause-only : goal.returns-in-Some-clause-only
returns-in-Some-clause-only c = on_some _ _ (no_path c.args.text.now c.in-Some.refusal (sym c.in-Some.ensures))

pub returns-in-Some-clause-exact : goal.returns-in-Some-clause-exact
returns-in-Some-clause-exact c = path_refusal_is_of_text c.args.text.now c.in-Some.refusal (sym c.in-Some.ensures) ∙ c.in-Some.ensures

pub returns-in-Ok-clause-ok : goal.returns-in-Ok-clause-ok
returns-in-Ok-clause-ok c = read_as_pieces c.args.text.now _ c.in-Ok.ensures.ok (sym c.in-None.ensures)
