use Rattle.std.proofs.Common.{arith, rules, ◌∙◌, ap, ◌≡◌, length}
use Rattle.std.specs.List.{list_any}
use Rattle.std.specs.Vec.{vec_capacity, vec_len}
use Rattle.ticket_book.specs.Asked.{Tickets, answer_all, has_number, is_due}
use Rattle.ticket_book.proofs.OneLemmas.{one_often, one_room}
use Rattle.ticket_book.proofs.SettleLemmas.{book_answered}
use Rattle.ticket_book.proofs.book.TicketBook.answer_one.Goals as goal

pub push_reserved-requires : goal.push_reserved-requires
push_reserved-requires c =
    let there = ap (λ (tickets : Tickets). list_any (is_due (has_number c.args.number)) tickets.all) c.self.view_is ∙ c.requires.open in
    let size : vec_len c.self.inside.answered ≡ length c.self.inside.answered.items = search rules in
    let room = one_room c.args.number (vec_capacity c.self.inside.answered) (record { all = c.self.inside.tickets.items; answered = c.self.inside.answered.items }) c.self.invariant.0
    c.self.invariant.1 there in omega (arith, room, size)

pub invariant_of-self : goal.invariant_of-self
invariant_of-self c =
    let there = ap (λ (tickets : Tickets). list_any (is_due (has_number c.args.number)) tickets.all) c.self.view_is ∙ c.requires.open in
    let is = book_answered (has_number c.args.number) c.args.at c.args.answer c.self.inside.tickets.items _ c.self.inside.answered.items _ _ _ _ c.self.invariant.0 (search rules)
    c.push_reserved.ensures.items (one_often c.args.number c.self.inside.tickets.items c.self.invariant.0.ascending there) c.answer_from.ensures.answered in
    let size = is.size in
    let enough = c.self.invariant.1 in
    let room = c.answer_from.ensures.capacity ∙ c.push_reserved.ensures.capacity in
    (is.rules, omega (arith, size, enough, room), c.answer_from.ensures.done, c.answer_from.ensures.indexed)

pub returns : goal.returns
returns c =
    let there = ap (λ (tickets : Tickets). list_any (is_due (has_number c.args.number)) tickets.all) c.self.view_is ∙ c.requires.open in
    let is = book_answered (has_number c.args.number) c.args.at c.args.answer c.self.inside.tickets.items _ c.self.inside.answered.items _ _ _ _ c.self.invariant.0 (search rules)
    c.push_reserved.ensures.items (one_often c.args.number c.self.inside.tickets.items c.self.invariant.0.ascending there) c.answer_from.ensures.answered in
    is.book ∙ ap (answer_all (has_number c.args.number) c.args.at c.args.answer) c.self.view_is
