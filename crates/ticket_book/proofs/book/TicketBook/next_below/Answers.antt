use Rattle.std.proofs.Common.{◌∙◌, ap}
use Rattle.ticket_book.specs.Asked.{Tickets, asks_below_from, lowest}
use Rattle.ticket_book.proofs.SettleLemmas.{table_next}
use Rattle.ticket_book.proofs.book.TicketBook.next_below.Goals as goal

pub returns : goal.returns
returns c =
    c.next_under.ensures
    ∙ table_next c.args.path.now c.args.from c.self.inside.tickets.items _ (c.self.invariant.3.below c.args.path.now)
    ∙ ap (λ (tickets : Tickets). lowest (asks_below_from c.args.path.now c.args.from) tickets.all) c.self.view_is
