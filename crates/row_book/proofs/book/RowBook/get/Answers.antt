use Rattle.std.proofs.Common.{◌∙◌}
use Rattle.mat_model.specs.Rows.{is_at_path}
use Rattle.row_book.proofs.FindLemmas.{as_seen, get_is, row_found}
use Rattle.row_book.proofs.book.RowBook.get.Goals as goal

pub returns-clause-stock : goal.returns-clause-stock
returns-clause-stock c =
    as_seen _ _ _ _ c.self.view_is (c.stock_at.ensures ∙ get_is c.args.path.now c.self.inside.trie _ c.self.invariant.placed)

pub returns-clause-row : goal.returns-clause-row
returns-clause-row c = row_found (is_at_path c.args.path.now) c.args.self.now _ (returns-clause-stock c)
