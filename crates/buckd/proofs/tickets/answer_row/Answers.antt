use Rattle.std.proofs.Common.{arith, ap, ◌∙◌, get_or, slice_set}
use Rattle.std.proofs.lemmas.List.Edits.{map_over_more}
use Rattle.mat_model.specs.declared.book.Ticket.{Ticket}
use Rattle.mat_model.specs.Tickets.{answered_by}
use Rattle.buckd.proofs.tickets.answer_row.Goals as goal

pub loop-ticket-preserved : goal.loop-ticket-preserved
loop-ticket-preserved c =
    ap (λ (ticket : Ticket). slice_set c.loop-ticket.tickets c.loop-ticket.ticket-index ticket) c.answer_one.ensures
    ∙ map_over_more (answered_by c.args.row.now c.args.number c.args.answer) c.args.tickets.now c.loop-ticket.tickets c.loop-ticket.ticket-index
    (get_or c.loop-ticket.tickets c.loop-ticket.ticket-index c.ticket-item.result)
    (omega arith) c.loop-ticket.invariant
    (ap (λ (ticket : Ticket). get_or c.loop-ticket.tickets c.loop-ticket.ticket-index ticket) c.ticket-item.is)
