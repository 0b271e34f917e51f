use Rattle.std.proofs.Common.{◌∙◌}
use Rattle.ticket_book.proofs.SettleLemmas.{lowest_all}
use Rattle.ticket_book.proofs.book.TicketBook.lowest_below.Goals as goal

pub returns : goal.returns
returns c = c.next_below.ensures ∙ lowest_all c.args.path.now c.args.self.now.all
