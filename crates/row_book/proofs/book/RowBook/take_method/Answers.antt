use Rattle.std.proofs.Common.{refl, ap, ◌∙◌}
use Rattle.row_book.specs.Stocks.{with_method, rows_of}
use Rattle.row_book.proofs.ChangeLemmas.{list_changed, whole_supplied}
use Rattle.row_book.proofs.RowLemmas.{rows_supplied}
use Rattle.row_book.proofs.book.RowBook.take_method.Goals as goal

pub invariant_of-self : goal.invariant_of-self
invariant_of-self c =
    whole_supplied c.args.path.now (with_method c.args.method) c.self.inside.trie c.supply_at-self-inside.new.trie c.self.inside.held c.supply_at-self-inside.result (λ s. refl)
    c.self.invariant c.supply_at-self-inside.ensures.trie c.supply_at-self-inside.ensures.held

pub returns-clause-stocks : goal.returns-clause-stocks
returns-clause-stocks c =
    list_changed c.args.path.now (with_method c.args.method) c.self.inside.trie c.supply_at-self-inside.new.trie c.args.self.now _ c.self.view_is refl c.supply_at-self-inside.ensures.trie

pub returns-clause-rows : goal.returns-clause-rows
returns-clause-rows c = ap rows_of (returns-clause-stocks c) ∙ rows_supplied c.args.path.now c.args.method c.args.self.now
