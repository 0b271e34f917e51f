use Rattle.mat_path.proofs.ReadLemmas.{read_as_pieces, no_path, lowest_first}
use Rattle.std.proofs.Common.{refl}
use Rattle.mat_path.specs.Names.{pieces}
use Rattle.mat_path.proofs.path.Path.refusals_are_exact.Goals as goal

pub returns-clause-spelled : goal.returns-clause-spelled
returns-clause-spelled c = λ none. read_as_pieces c.args.text.now (pieces c.args.text.now) refl none

pub returns-clause-refused : goal.returns-clause-refused
returns-clause-refused c = λ refusal h. no_path c.args.text.now refusal h

pub returns-clause-lowest : goal.returns-clause-lowest
returns-clause-lowest c = λ at fault within here below. lowest_first c.args.text.now at fault within here below
