use Rattle.std.proofs.Common.{◌∙◌}
use Rattle.ticket_book.proofs.FoundLemmas.{ticket_found}
use Rattle.ticket_book.proofs.lists.ticket_at.Goals as goal

pub returns : goal.returns
returns c =
    c.first_if.ensures
    ∙ ticket_found c.args.number c.args.tickets.now c.rest.result.now c.place_from.result c.requires c.place_from.ensures.front c.place_from.ensures.back c.rest.ensures
