use Rattle.std.proofs.Common.{sym, subst, ◌≡◌, true, arith}
use Rattle.std.specs.List.{list_all}
use Rattle.ticket_book.specs.Asked.{is_earlier}
use Rattle.mat_core.proofs.LosingLemmas.{earlier_lost, lost_end, lost_start, lost_step, lowest_due, lowest_earlier, lowest_from}
use Rattle.mat_core.proofs.losing.answer_lost.Goals as goal

pub tickets-init : goal.tickets-init
tickets-init c = record {
  all = lost_start c.args.top.now c.args.row.now c.args.number c.args.tickets.now.all;
  earlier = c.requires;
}

pub answer_if_lost-requires : goal.answer_if_lost-requires
answer_if_lost-requires c = lowest_due _ c.tickets.tickets.all c.in-Some.ticket (sym c.in-Some.ensures)

pub overflow_add-from : goal.overflow_add-from
overflow_add-from c =
    let less = lowest_earlier _ c.tickets.tickets.all c.in-Some.ticket c.args.number c.tickets.invariant.earlier (sym c.in-Some.ensures) in
    let fits = c.ranges.number in omega (arith, less, fits)

pub tickets-smaller : goal.tickets-smaller
tickets-smaller c =
    let less = lowest_earlier _ c.tickets.tickets.all c.in-Some.ticket c.args.number c.tickets.invariant.earlier (sym c.in-Some.ensures) in
    let more = lowest_from c.args.top.now c.tickets.from c.tickets.tickets.all c.in-Some.ticket (sym c.in-Some.ensures) in omega (arith, less, more)

pub tickets-preserved : goal.tickets-preserved
tickets-preserved c = record {
  all = lost_step c.args.top.now c.args.row.now c.args.number c.tickets.from c.in-Some.ticket c.args.tickets.now.all c.tickets.tickets.all
      c.answer_if_lost.new.tickets.all c.are_tickets.ensures.ascending c.tickets.invariant.all (sym c.in-Some.ensures) c.answer_if_lost.ensures;
  earlier = subst (λ ts. list_all (is_earlier c.args.number) ts ≡ true) (sym c.answer_if_lost.ensures)
      (earlier_lost c.args.number c.in-Some.ticket c.args.top.now c.args.row.now c.args.number c.tickets.tickets.all c.tickets.invariant.earlier);
}

pub returns : goal.returns
returns c = lost_end c.args.top.now c.args.row.now c.args.number c.tickets.from c.args.tickets.now.all c.tickets.tickets.all c.tickets.invariant.all
    (sym c.in_default.ensures)
