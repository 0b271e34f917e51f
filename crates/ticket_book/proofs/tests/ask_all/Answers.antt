use Rattle.std.proofs.Common.{rules, ◌+◌}
use Rattle.ticket_book.proofs.AnswerLemmas.{earlier_asked}
use Rattle.ticket_book.proofs.tests.ask_all.Goals as goal

pub loop-k-preserved : goal.loop-k-preserved
loop-k-preserved c =
    earlier_asked (c.loop-k.k + 1) c.loop-k.book c.ask.new.self c.in_ok-ticket.field-0 (search rules) c.loop-k.invariant (search rules)
