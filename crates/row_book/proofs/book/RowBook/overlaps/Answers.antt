use Rattle.std.proofs.Common.{◌∙◌, ap, List}
use Rattle.std.specs.List.{list_any}
use Rattle.mat_model.specs.Rows.{overlaps_row}
use Rattle.row_book.specs.declared.stock.Stock.{Stock}
use Rattle.row_book.specs.Stocks.{rows_of}
use Rattle.row_book.proofs.FindLemmas.{overlaps_is}
use Rattle.row_book.proofs.book.RowBook.overlaps.Goals as goal

pub returns : goal.returns
returns c =
    c.overlaps.ensures
    ∙ overlaps_is c.args.path.now c.self.inside.trie _ c.self.invariant.placed
    ∙ ap (λ (ss : List Stock). list_any (overlaps_row c.args.path.now) (rows_of ss)) c.self.view_is
