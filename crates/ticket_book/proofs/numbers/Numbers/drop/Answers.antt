use Rattle.std.proofs.Common.{◌∙◌, ap}
use Rattle.std.specs.List.{filter}
use Rattle.ticket_book.specs.ByPath.{is_other}
use Rattle.ticket_book.proofs.NumberLemmas.{one_gone}
use Rattle.ticket_book.proofs.numbers.Numbers.drop.Goals as goal

pub returns : goal.returns
returns c = c.remove.ensures.keys ∙ one_gone c.args.number c.self.inside.set.keys c.len-count.ensures.ordered ∙ ap (filter (is_other c.args.number)) c.self.view_is
