use Rattle.std.proofs.Common.{◌<◌, ◌^◌, ◌∙◌, ap, subst, sym}
use Rattle.std.specs.List.{filter}
use Rattle.row_book.specs.declared.stock.Stock.{Stock}
use Rattle.row_book.specs.Stocks.{held_bytes, is_clear_stock, put_stock}
use Rattle.mat_core.proofs.OpeningLemmas.{push_held, push_row}
use Rattle.mat_core.proofs.opening.add_row.Goals as goal

pub declare-requires : goal.declare-requires
declare-requires c = record {
  few = subst (λ (s : Stock). held_bytes (put_stock s (filter (is_clear_stock s.row.path) c.args.rows.now)) < 2 ^ 64) (sym c.fetched.ensures)
      (push_held c.args.row c.args.rows.now c.requires.ahead c.requires.free);
}

pub returns-in-Ok : goal.returns-in-Ok
returns-in-Ok c =
    c.in-Ok.ensures.stocks ∙ ap (λ (s : Stock). put_stock s (filter (is_clear_stock s.row.path) c.args.rows.now)) c.fetched.ensures
    ∙ push_row c.args.row c.args.rows.now c.requires.ahead
