use Rattle.std.proofs.Common.{◌∙◌, ap, count_by}
use Rattle.mat_model.specs.Requests.{is_open_of}
use Rattle.ticket_book.specs.Asked.{Tickets, asks_for}
use Rattle.ticket_book.proofs.SettleLemmas.{table_size}
use Rattle.ticket_book.proofs.book.TicketBook.open_of.Goals as goal

pub returns : goal.returns
returns c =
    c.count_of.ensures
    ∙ table_size (asks_for c.args.command) c.self.inside.tickets.items _ (c.self.invariant.3.commands c.args.command)
    ∙ ap (λ (tickets : Tickets). count_by (is_open_of c.args.command) tickets.all) c.self.view_is
