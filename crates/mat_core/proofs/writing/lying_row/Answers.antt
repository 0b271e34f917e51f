use Rattle.std.proofs.Common.{true, false, sym, ap, ◌∙◌}
use Rattle.std.specs.Option.{option_map}
use Rattle.mat_core.specs.Writing.{lying_of}
use Rattle.mat_core.proofs.WriteLemmas.{lying_found, lying_none, lying_told}
use Rattle.mat_core.proofs.writing.lying_row.Goals as goal

pub returns-in-None : goal.returns-in-None
returns-in-None c =
    ap (option_map lying_of) (sym (lying_none c.args.path.now c.args.tree.now c.args.rows.now (sym c.in-None.ensures.stock)))

pub returns-then-lies_with : goal.returns-then-lies_with
returns-then-lies_with c =
    lying_told c.in-Some.stock.now c.held_of.result c.bytes.result c.held_of.ensures c.bytes.ensures
    ∙ ap (option_map lying_of)
    (sym (lying_found c.args.path.now c.args.tree.now c.args.rows.now c.in-Some.stock.now true c.is_in_order.ensures (sym c.in-Some.ensures.stock)
    (sym c.lies_with.ensures ∙ c.if-lies_with.true)))

pub returns-else-lies_with : goal.returns-else-lies_with
returns-else-lies_with c =
    ap (option_map lying_of)
    (sym (lying_found c.args.path.now c.args.tree.now c.args.rows.now c.in-Some.stock.now false c.is_in_order.ensures (sym c.in-Some.ensures.stock)
    (sym c.lies_with.ensures ∙ c.if-lies_with.false)))
