use Rattle.std.proofs.Common.{cond, Some, None, sym, ap, ◌∙◌}
use Rattle.std.specs.Option.{option_map}
use Rattle.mat_model.specs.WorkState.{stamp_of}
use Rattle.row_book.specs.Stocks.{rows_of}
use Rattle.mat_core.proofs.DeclareLemmas.{equal_found, equal_none}
use Rattle.mat_core.proofs.declaring.equal_row.Goals as goal

pub returns-in-None : goal.returns-in-None
returns-in-None c =
    ap (option_map stamp_of) (sym (equal_none c.args.path.now c.args.tree.now (rows_of c.args.rows.now) (sym c.in-None.ensures.row)))

pub returns-then-same : goal.returns-then-same
returns-then-same c =
    ap (option_map stamp_of)
    (sym (equal_found c.args.path.now c.args.tree.now (rows_of c.args.rows.now) c.in-Some.stock.now.row c.is_in_order.ensures (sym c.in-Some.ensures.row)
    ∙ ap (λ b. cond b (Some c.in-Some.stock.now.row) None) (sym c.same.ensures ∙ c.if-same.true)))

pub returns-else-same : goal.returns-else-same
returns-else-same c =
    ap (option_map stamp_of)
    (sym (equal_found c.args.path.now c.args.tree.now (rows_of c.args.rows.now) c.in-Some.stock.now.row c.is_in_order.ensures (sym c.in-Some.ensures.row)
    ∙ ap (λ b. cond b (Some c.in-Some.stock.now.row) None) (sym c.same.ensures ∙ c.if-same.false)))
