use Rattle.std.proofs.Common.{true, false, sym, ◌∙◌}
use Rattle.mat_core.proofs.ChoosingLemmas.{source_found, source_none}
use Rattle.mat_core.proofs.choosing.source_at.Goals as goal

pub returns-in-None : goal.returns-in-None
returns-in-None c = sym (source_none c.args.source.now c.args.stamp c.args.rows.now (sym c.in-None.ensures.stock))

pub returns-then-stands_with : goal.returns-then-stands_with
returns-then-stands_with c =
    sym (source_found c.args.source.now c.args.stamp c.args.rows.now c.in-Some.stock.now true c.is_in_order.ensures (sym c.in-Some.ensures.stock)
    (sym c.stands_with.ensures ∙ c.if-stands_with.true))

pub returns-else-stands_with : goal.returns-else-stands_with
returns-else-stands_with c =
    sym (source_found c.args.source.now c.args.stamp c.args.rows.now c.in-Some.stock.now false c.is_in_order.ensures (sym c.in-Some.ensures.stock)
    (sym c.stands_with.ensures ∙ c.if-stands_with.false))
