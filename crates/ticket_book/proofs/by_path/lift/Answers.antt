use Rattle.std.proofs.Common.{◌∙◌, ap, is_some}
use Rattle.ticket_book.proofs.ByPathLemmas.{put_here, put_other}
use Rattle.ticket_book.proofs.by_path.lift.Goals as goal

pub returns-in-Ok-clause-there : goal.returns-in-Ok-clause-there
returns-in-Ok-clause-there c = ap is_some (put_here _ _ _ _ c.in-Ok.ensures.list) ∙ ap is_some c.in-Ok.ensures.old

pub returns-in-Ok-clause-others : goal.returns-in-Ok-clause-others
returns-in-Ok-clause-others c = λ at other. put_other _ _ _ _ at c.in-Ok.ensures.list other
