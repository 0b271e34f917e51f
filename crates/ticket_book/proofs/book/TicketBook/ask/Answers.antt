use Rattle.std.proofs.Common.{rules, List, sym, subst}
use Rattle.mat_model.specs.declared.book.Ticket.{Ticket}
use Rattle.ticket_book.specs.Index.{IsIndex}
use Rattle.ticket_book.proofs.AnswerLemmas.{asked_kept}
use Rattle.ticket_book.proofs.DoneLemmas.{done_asked}
use Rattle.ticket_book.proofs.book.TicketBook.ask.Goals as goal

pub invariant_of-self-2 : goal.invariant_of-self-2
invariant_of-self-2 c = (
  asked_kept c.self.inside.tickets.items c.push_reserved.new.self.items c.self.inside.answered.items c.reserve-2.new.self.items c.args.ticket
      c.self.invariant.0 (search rules) c.requires.open (search rules) (search rules),
  search rules,
  done_asked c.self.inside.tickets.items c.push_reserved.new.self.items c.args.ticket c.self.inside.done c.self.invariant.2 (search rules),
  subst (λ (ts : List Ticket). IsIndex ts c.add.new.self.paths c.add.new.self.below c.add.new.self.commands) (sym (search rules))
      (c.in_ok-add.ensures c.self.inside.tickets.items c.self.invariant.3 (search rules) c.requires.open),
)
