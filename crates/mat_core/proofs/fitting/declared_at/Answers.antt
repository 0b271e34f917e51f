use Rattle.std.proofs.Common.{◌∙◌, cond, None, Some, sym, ap}
use Rattle.std.proofs.lemmas.Bool.{eq-eqb, ne_eqb}
use Rattle.mat_core.proofs.EndLemmas.{declared_by, declared_is}
use Rattle.mat_core.proofs.fitting.declared_at.Goals as goal

pub returns-then-stock-stamp : goal.returns-then-stock-stamp
returns-then-stock-stamp c =
    sym (declared_is c.args.path.now c.args.stamp c.args.rows.now c.is_in_order.ensures ∙ ap (declared_by c.args.stamp) (sym c.in-Some.ensures.stock)
    ∙ ap (λ b. cond b (Some c.in-Some.stock.now.row) None) (eq-eqb c.in-Some.stock.now.row.stamp c.args.stamp c.if-stock-stamp.true))

pub returns-else-stock-stamp : goal.returns-else-stock-stamp
returns-else-stock-stamp c =
    sym (declared_is c.args.path.now c.args.stamp c.args.rows.now c.is_in_order.ensures ∙ ap (declared_by c.args.stamp) (sym c.in-Some.ensures.stock)
    ∙ ap (λ b. cond b (Some c.in-Some.stock.now.row) None) (ne_eqb c.in-Some.stock.now.row.stamp c.args.stamp c.if-stock-stamp.false))

pub returns-in-None : goal.returns-in-None
returns-in-None c =
    sym (declared_is c.args.path.now c.args.stamp c.args.rows.now c.is_in_order.ensures ∙ ap (declared_by c.args.stamp) (sym c.in-None.ensures.stock))
