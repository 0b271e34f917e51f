use Rattle.std.proofs.Common.{arith, ap, get_or}
use Rattle.mat_model.specs.declared.book.Ticket.{Ticket}
use Rattle.ticket_book.proofs.IndexLemmas.{index_answered}
use Rattle.ticket_book.proofs.RowLemmas.{marked_at, marked_none}
use Rattle.ticket_book.proofs.lists.answer_number.Goals as goal

pub returns-then-place-tickets-clause-tickets : goal.returns-then-place-tickets-clause-tickets
returns-then-place-tickets-clause-tickets c =
    marked_at c.args.number c.args.at c.args.answer c.args.tickets.now c.place_from-place.result
    (get_or c.args.tickets.now c.place_from-place.result c.index-tickets-place.result) c.answer.new.ticket c.requires.ascending
    c.place_from-place.ensures.front c.place_from-place.ensures.back c.if-place-tickets.true
    (ap (λ (ticket : Ticket). get_or c.args.tickets.now c.place_from-place.result ticket) c.index-tickets-place.is) c.answer.ensures.ticket

pub returns-then-place-tickets-clause-indexed : goal.returns-then-place-tickets-clause-indexed
returns-then-place-tickets-clause-indexed c =
    index_answered c.args.number c.args.at c.args.answer c.place_from-place.result c.args.tickets.now _ (get_or c.args.tickets.now c.place_from-place.result c.index-tickets-place.result) _ _ _ _ _ _ c.requires.indexed c.requires.ascending
    c.place_from-place.ensures.front c.place_from-place.ensures.back c.if-place-tickets.true
    (ap (λ (ticket : Ticket). get_or c.args.tickets.now c.place_from-place.result ticket) c.index-tickets-place.is)
    (marked_at c.args.number c.args.at c.args.answer c.args.tickets.now c.place_from-place.result
    (get_or c.args.tickets.now c.place_from-place.result c.index-tickets-place.result) c.answer.new.ticket c.requires.ascending
    c.place_from-place.ensures.front c.place_from-place.ensures.back c.if-place-tickets.true
    (ap (λ (ticket : Ticket). get_or c.args.tickets.now c.place_from-place.result ticket) c.index-tickets-place.is) c.answer.ensures.ticket)
    c.answer.ensures.paths c.answer.ensures.below c.answer.ensures.commands

pub returns-else-place-tickets-clause-tickets : goal.returns-else-place-tickets-clause-tickets
returns-else-place-tickets-clause-tickets c =
    let past = c.if-place-tickets.false in
    marked_none c.args.number c.args.at c.args.answer c.args.tickets.now c.place_from-place.result c.place_from-place.ensures.front (omega (arith, past))
