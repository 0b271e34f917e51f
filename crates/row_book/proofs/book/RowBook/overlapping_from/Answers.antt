use Rattle.std.proofs.Common.{◌∙◌}
use Rattle.row_book.proofs.FindLemmas.{above_next, as_seen, below_next, leading_is, under_is}
use Rattle.row_book.proofs.book.RowBook.overlapping_from.Goals as goal

pub returns-in-Some : goal.returns-in-Some
returns-in-Some c =
    as_seen _ _ _ _ c.self.view_is
    (c.if_past.ensures
    ∙ above_next c.args.path.now _ _ c.in-Some.stock.now c.self.invariant.apart
    (c.in-Some.ensures ∙ leading_is c.args.path.now c.self.inside.trie _ c.self.invariant.placed))

pub returns-in-None : goal.returns-in-None
returns-in-None c =
    as_seen _ _ _ _ c.self.view_is
    (c.stock_under.ensures
    ∙ under_is c.args.path.now _ c.self.inside.trie _ c.self.invariant.placed
    ∙ below_next c.args.path.now _ _ (c.in-None.ensures ∙ leading_is c.args.path.now c.self.inside.trie _ c.self.invariant.placed))
