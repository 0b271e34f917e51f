use Rattle.std.proofs.Common.{◌∙◌}
use Rattle.ticket_book.specs.Asked.{is_from}
use Rattle.ticket_book.proofs.DoneLemmas.{lowest_rest}
use Rattle.ticket_book.proofs.FoundLemmas.{lowest_past}
use Rattle.ticket_book.proofs.lists.lowest_from.Goals as goal

pub returns : goal.returns
returns c =
    c.lowest_from_in-2.ensures ∙ lowest_past c.args.from c.args.tickets.now c.rest-2.result.now c.place_from-place.result c.place_from-place.ensures.front c.rest-2.ensures

pub returns-then-place-done : goal.returns-then-place-done
returns-then-place-done c =
    c.lowest_from_in.ensures ∙ lowest_rest (is_from c.args.from) c.args.tickets.now c.rest.result.now c.args.done c.requires.done c.rest.ensures
