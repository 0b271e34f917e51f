use Rattle.std.proofs.Common.{arith, rules, ◌∙◌, ap}
use Rattle.std.specs.Vec.{vec_capacity}
use Rattle.ticket_book.specs.Asked.{answer_all, asks_over}
use Rattle.ticket_book.proofs.AnswerLemmas.{room_for}
use Rattle.ticket_book.proofs.SettleLemmas.{book_answered, overlap_often, overlap_size}
use Rattle.ticket_book.proofs.book.TicketBook.answer_overlap.Goals as goal

pub list_overlap-requires : goal.list_overlap-requires
list_overlap-requires c =
    let size = overlap_size c.args.path.now c.self.inside.index.paths c.self.inside.tickets.items c.is_in_order.ensures c.self.invariant.3.paths in
    let room = room_for (asks_over c.args.path.now) (record { all = c.self.inside.tickets.items; answered = c.self.inside.answered.items })
    (vec_capacity c.self.inside.answered) c.self.invariant.0 c.self.invariant.1 in omega (arith, size, room)

pub invariant_of-self : goal.invariant_of-self
invariant_of-self c =
    let is = book_answered (asks_over c.args.path.now) c.args.at c.args.answer c.self.inside.tickets.items _ c.self.inside.answered.items _ _ _ _ c.self.invariant.0 (search rules)
    c.list_overlap.ensures.list (overlap_often c.args.path.now c.self.inside.index.paths c.self.inside.tickets.items c.is_in_order.ensures c.self.invariant.3.paths) c.answer_from.ensures.answered in
    let size = is.size in
    let enough = c.self.invariant.1 in
    let room = c.answer_from.ensures.capacity ∙ c.list_overlap.ensures.capacity in
    (is.rules, omega (arith, size, enough, room), c.answer_from.ensures.done, c.answer_from.ensures.indexed)

pub returns : goal.returns
returns c =
    let is = book_answered (asks_over c.args.path.now) c.args.at c.args.answer c.self.inside.tickets.items _ c.self.inside.answered.items _ _ _ _ c.self.invariant.0 (search rules)
    c.list_overlap.ensures.list (overlap_often c.args.path.now c.self.inside.index.paths c.self.inside.tickets.items c.is_in_order.ensures c.self.invariant.3.paths) c.answer_from.ensures.answered in
    is.book ∙ ap (answer_all (asks_over c.args.path.now) c.args.at c.args.answer) c.self.view_is
