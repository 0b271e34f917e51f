use Rattle.std.proofs.Common.{cond, ap, sym, ◌∙◌}
use Rattle.mat_core.proofs.TopLemmas.{top_found}
use Rattle.mat_core.proofs.beginning.top_of.Goals as goal

pub returns-then-is_prefix : goal.returns-then-is_prefix
returns-then-is_prefix c =
    sym (ap (λ b. cond b c.in-Some.stock.now.row.path c.args.path.now) (sym c.is_prefix.ensures ∙ c.if-is_prefix.true))
    ∙ top_found c.args.path.now c.args.rows.now _ c.is_in_order.ensures c.in-Some.ensures

pub returns-else-is_prefix : goal.returns-else-is_prefix
returns-else-is_prefix c =
    sym (ap (λ b. cond b c.in-Some.stock.now.row.path c.args.path.now) (sym c.is_prefix.ensures ∙ c.if-is_prefix.false))
    ∙ top_found c.args.path.now c.args.rows.now _ c.is_in_order.ensures c.in-Some.ensures

pub returns-in-None : goal.returns-in-None
returns-in-None c = top_found c.args.path.now c.args.rows.now _ c.is_in_order.ensures c.in-None.ensures
