use Rattle.std.proofs.Common.{◌∙◌}
use Rattle.mat_model.specs.Rows.{covers}
use Rattle.row_book.proofs.FindLemmas.{as_seen, cover_is, row_found}
use Rattle.row_book.proofs.book.RowBook.cover.Goals as goal

pub returns-clause-stock : goal.returns-clause-stock
returns-clause-stock g c =
    as_seen _ _ _ _ c.self.view_is
    (c.if_covering.ensures
    ∙ cover_is c.args.path.now c.self.inside.trie _ _ c.self.invariant.placed c.self.invariant.apart c.stock_leading.ensures.stock)

pub returns-clause-row : goal.returns-clause-row
returns-clause-row g c = row_found (covers c.args.path.now) c.args.self.now _ (returns-clause-stock g c)
