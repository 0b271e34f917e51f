use Rattle.std.proofs.Common.{refl, ap, ◌∙◌}
use Rattle.row_book.specs.Stocks.{with_mark, rows_of}
use Rattle.row_book.proofs.ChangeLemmas.{list_changed, whole_changed}
use Rattle.row_book.proofs.RowLemmas.{rows_marked}
use Rattle.row_book.proofs.book.RowBook.set_dirty.Goals as goal

pub invariant_of-self : goal.invariant_of-self
invariant_of-self c =
    whole_changed c.args.path.now (with_mark c.args.dirty) c.self.inside.trie c.mark_at.new.trie c.self.inside.held (λ s. refl) (λ s. refl) c.self.invariant c.mark_at.ensures

pub returns-clause-stocks : goal.returns-clause-stocks
returns-clause-stocks c =
    list_changed c.args.path.now (with_mark c.args.dirty) c.self.inside.trie c.mark_at.new.trie c.args.self.now _ c.self.view_is refl c.mark_at.ensures

pub returns-clause-rows : goal.returns-clause-rows
returns-clause-rows c = ap rows_of (returns-clause-stocks c) ∙ rows_marked c.args.path.now c.args.dirty c.args.self.now
