use Rattle.std.proofs.Common.{◌∙◌}
use Rattle.row_book.proofs.FindLemmas.{covers_is}
use Rattle.mat_core.proofs.losing.covers.Goals as goal

pub returns-in-Some : goal.returns-in-Some
returns-in-Some c = c.is_some.ensures ∙ covers_is c.args.row.now c.args.path.now c.in-Some.rest.now c.has.result c.in-Some.ensures c.has.ensures
