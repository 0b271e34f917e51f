use Rattle.std.proofs.Common.{refl, ap, ◌∙◌, ◌∷◌, []}
use Rattle.row_book.specs.Stocks.{is_elsewhere, is_stock_elsewhere, rows_of, stock_at}
use Rattle.row_book.specs.Whole.{stocks_of}
use Rattle.row_book.proofs.HeldLemmas.{held_single, list_left, one_taken, taken_fits, whole_left, whole_same}
use Rattle.row_book.proofs.RowLemmas.{rows_left}
use Rattle.row_book.proofs.book.RowBook.remove.Goals as goal

pub overflow_sub-self : goal.overflow_sub-self
overflow_sub-self c =
    taken_fits (stock_at c.args.path.now) (is_stock_elsewhere c.args.path.now) (λ s. refl) c.self.inside.held c.held_of.result (stocks_of c.self.inside.trie) (c.in-Some.stock ∷ [])
    c.self.invariant.counted (one_taken c.args.path.now (stocks_of c.self.inside.trie) c.in-Some.stock c.self.invariant.apart c.in-Some.ensures.stock)
    (c.held_of.ensures ∙ held_single c.in-Some.stock)

pub invariant_of-self : goal.invariant_of-self
invariant_of-self c =
    whole_left (stock_at c.args.path.now) (is_stock_elsewhere c.args.path.now) (λ s. refl) c.self.inside.trie c.take_one.new.trie c.self.inside.held c.held_of.result (c.in-Some.stock ∷ [])
    c.self.invariant c.take_one.ensures.trie (one_taken c.args.path.now (stocks_of c.self.inside.trie) c.in-Some.stock c.self.invariant.apart c.in-Some.ensures.stock)
    (c.held_of.ensures ∙ held_single c.in-Some.stock)

pub invariant_of-self-in-None : goal.invariant_of-self-in-None
invariant_of-self-in-None c = whole_same c.args.path.now c.self.inside.trie c.take_one.new.trie c.self.inside.held c.self.invariant c.take_one.ensures.trie c.in-None.ensures.stock

pub returns-in-Some-clause-stocks : goal.returns-in-Some-clause-stocks
returns-in-Some-clause-stocks c =
    list_left (is_stock_elsewhere c.args.path.now) c.self.inside.trie c.take_one.new.trie c.args.self.now _ c.self.view_is refl c.take_one.ensures.trie

pub returns-in-Some-clause-rows : goal.returns-in-Some-clause-rows
returns-in-Some-clause-rows c = ap rows_of (returns-in-Some-clause-stocks c) ∙ rows_left (is_elsewhere c.args.path.now) c.args.self.now

pub returns-in-None-clause-stocks : goal.returns-in-None-clause-stocks
returns-in-None-clause-stocks c =
    list_left (is_stock_elsewhere c.args.path.now) c.self.inside.trie c.take_one.new.trie c.args.self.now _ c.self.view_is refl c.take_one.ensures.trie

pub returns-in-None-clause-rows : goal.returns-in-None-clause-rows
returns-in-None-clause-rows c = ap rows_of (returns-in-None-clause-stocks c) ∙ rows_left (is_elsewhere c.args.path.now) c.args.self.now
