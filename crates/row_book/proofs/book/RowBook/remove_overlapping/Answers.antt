use Rattle.std.proofs.Common.{refl, ap, ◌∙◌, rules}
use Rattle.mat_model.specs.Rows.{is_clear_of}
use Rattle.row_book.specs.Stocks.{held_bytes, is_clear_stock, overlaps_stock, rows_of}
use Rattle.row_book.specs.Whole.{stocks_of}
use Rattle.row_book.proofs.HeldLemmas.{list_left, taken_fits, whole_left}
use Rattle.row_book.proofs.RowLemmas.{rows_left}
use Rattle.row_book.proofs.book.RowBook.remove_overlapping.Goals as goal

pub held_all-requires : goal.held_all-requires
held_all-requires c =
    let within = taken_fits (overlaps_stock c.args.path.now) (is_clear_stock c.args.path.now) (λ s. refl) c.self.inside.held (held_bytes c.as_slice-in-Ok.result.now)
    (stocks_of c.self.inside.trie) c.as_slice-in-Ok.result.now c.self.invariant.counted (c.as_slice-in-Ok.ensures.value ∙ c.take_overlapping.ensures.removed) refl in
    search rules

pub overflow_sub-self : goal.overflow_sub-self
overflow_sub-self c =
    taken_fits (overlaps_stock c.args.path.now) (is_clear_stock c.args.path.now) (λ s. refl) c.self.inside.held c.held_all.result (stocks_of c.self.inside.trie) c.as_slice-in-Ok.result.now
    c.self.invariant.counted (c.as_slice-in-Ok.ensures.value ∙ c.take_overlapping.ensures.removed) c.held_all.ensures

pub invariant_of-self : goal.invariant_of-self
invariant_of-self c =
    whole_left (overlaps_stock c.args.path.now) (is_clear_stock c.args.path.now) (λ s. refl) c.self.inside.trie c.take_overlapping.new.trie c.self.inside.held c.held_all.result
    c.as_slice-in-Ok.result.now c.self.invariant c.take_overlapping.ensures.trie (c.as_slice-in-Ok.ensures.value ∙ c.take_overlapping.ensures.removed) c.held_all.ensures

pub returns-in-Ok-clause-stocks : goal.returns-in-Ok-clause-stocks
returns-in-Ok-clause-stocks c =
    list_left (is_clear_stock c.args.path.now) c.self.inside.trie c.take_overlapping.new.trie c.args.self.now _ c.self.view_is refl c.take_overlapping.ensures.trie

pub returns-in-Ok-clause-rows : goal.returns-in-Ok-clause-rows
returns-in-Ok-clause-rows c = ap rows_of (returns-in-Ok-clause-stocks c) ∙ rows_left (is_clear_of c.args.path.now) c.args.self.now
