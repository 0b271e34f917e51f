use Rattle.std.proofs.Common.{sym, ap, ◌∙◌}
use Rattle.mat_core.proofs.LosingLemmas.{lost_absent, lost_not, lost_one}
use Rattle.mat_core.proofs.losing.answer_if_lost.Goals as goal

pub returns-in_default : goal.returns-in_default
returns-in_default c = lost_absent c.args.top.now c.args.row.now c.args.number c.args.ticket c.args.tickets.now.all (sym c.in_default.ensures)

pub returns-then-is_lost : goal.returns-then-is_lost
returns-then-is_lost c =
    ap (λ t. t.all) c.answer_one.ensures
    ∙ lost_one c.args.top.now c.args.row.now c.args.number c.args.ticket c.in-Some.found.now c.args.tickets.now.all c.are_tickets.ensures.ascending
    (sym c.in-Some.ensures) (sym c.is_lost.ensures ∙ c.if-is_lost.true)

pub returns-else-is_lost : goal.returns-else-is_lost
returns-else-is_lost c =
    lost_not c.args.top.now c.args.row.now c.args.number c.args.ticket c.in-Some.found.now c.args.tickets.now.all c.are_tickets.ensures.ascending
    (sym c.in-Some.ensures) (sym c.is_lost.ensures ∙ c.if-is_lost.false)
