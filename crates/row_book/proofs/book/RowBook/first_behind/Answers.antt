use Rattle.std.proofs.Common.{◌∙◌}
use Rattle.row_book.proofs.FindLemmas.{as_seen, first_is}
use Rattle.row_book.proofs.book.RowBook.first_behind.Goals as goal

pub returns : goal.returns
returns c = as_seen _ _ _ _ c.self.view_is (c.stock_behind.ensures ∙ first_is _ c.self.inside.trie _ c.self.invariant.placed)
