use Rattle.std.proofs.Common.{◌∙◌, List, ap, drop, subst, sym}
use Rattle.mat_model.specs.declared.book.Ticket.{Ticket}
use Rattle.ticket_book.specs.ByPath.{is_among}
use Rattle.ticket_book.specs.Done.{IsDone}
use Rattle.ticket_book.proofs.DoneLemmas.{done_answered}
use Rattle.ticket_book.proofs.SettleLemmas.{settled}
use Rattle.ticket_book.proofs.lists.answer_from.Goals as goal

pub returns-clause-answered : goal.returns-clause-answered
returns-clause-answered c = λ test often.
    settled test c.args.at c.args.answer _ _ _ _ _ c.args.known c.requires.ascending often c.sort_from.ensures.front c.sort_from.ensures.same c.sort_from.ensures.sorted
    (c.rest.ensures ∙ ap (drop c.args.known) c.as_slice.ensures.value) c.answer_numbers.ensures.tickets

pub first_open-requires : goal.first_open-requires
first_open-requires c =
    subst (λ (ts : List Ticket). IsDone c.args.done.now ts) (sym c.as_slice-2.ensures.value)
    (done_answered (is_among c.rest.result.now) c.args.at c.args.answer c.args.tickets.now.items c.answer_numbers.new.tickets.items c.args.done.now c.requires.done
    c.answer_numbers.ensures.tickets)
