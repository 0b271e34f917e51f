use Rattle.std.proofs.Common.{arith, rules, ◌∙◌, ap}
use Rattle.std.specs.Vec.{vec_capacity}
use Rattle.ticket_book.specs.Asked.{answer_all, asks_for}
use Rattle.ticket_book.proofs.AnswerLemmas.{room_for}
use Rattle.ticket_book.proofs.SettleLemmas.{book_answered, table_often, table_size}
use Rattle.ticket_book.proofs.book.TicketBook.answer_command.Goals as goal

pub list_of-requires : goal.list_of-requires
list_of-requires c =
    let size = table_size (asks_for c.args.command) c.self.inside.tickets.items _ (c.self.invariant.3.commands c.args.command) in
    let room = room_for (asks_for c.args.command) (record { all = c.self.inside.tickets.items; answered = c.self.inside.answered.items })
    (vec_capacity c.self.inside.answered) c.self.invariant.0 c.self.invariant.1 in omega (arith, size, room)

pub invariant_of-self : goal.invariant_of-self
invariant_of-self c =
    let is = book_answered (asks_for c.args.command) c.args.at c.args.answer c.self.inside.tickets.items _ c.self.inside.answered.items _ _ _ _ c.self.invariant.0 (search rules)
    c.list_of.ensures.list (table_often (asks_for c.args.command) c.self.inside.tickets.items _ (c.self.invariant.3.commands c.args.command)) c.answer_from.ensures.answered in
    let size = is.size in
    let enough = c.self.invariant.1 in
    let room = c.answer_from.ensures.capacity ∙ c.list_of.ensures.capacity in
    (is.rules, omega (arith, size, enough, room), c.answer_from.ensures.done, c.answer_from.ensures.indexed)

pub returns : goal.returns
returns c =
    let is = book_answered (asks_for c.args.command) c.args.at c.args.answer c.self.inside.tickets.items _ c.self.inside.answered.items _ _ _ _ c.self.invariant.0 (search rules)
    c.list_of.ensures.list (table_often (asks_for c.args.command) c.self.inside.tickets.items _ (c.self.invariant.3.commands c.args.command)) c.answer_from.ensures.answered in
    is.book ∙ ap (answer_all (asks_for c.args.command) c.args.at c.args.answer) c.self.view_is
