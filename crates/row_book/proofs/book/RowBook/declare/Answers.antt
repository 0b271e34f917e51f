use Rattle.std.proofs.Common.{refl, ap, sym, subst, ◌∙◌, ◌<◌, ◌^◌, ℕ, List, arith, rules}
use Rattle.std.specs.List.{filter}
use Rattle.row_book.specs.declared.stock.Stock.{Stock}
use Rattle.row_book.specs.Stocks.{held_bytes, is_clear_stock, overlaps_stock, put_stock, rows_of}
use Rattle.row_book.specs.Whole.{stocks_of}
use Rattle.row_book.proofs.HeldLemmas.{held_placed, list_placed, own_place, own_taken, rows_placed, taken_fits, whole_placed}
use Rattle.row_book.proofs.book.RowBook.declare.Goals as goal

pub held_all-requires : goal.held_all-requires
held_all-requires c =
    let out = own_taken c.args.stock c.in-Ok.path (stocks_of c.self.inside.trie) c.place.new.removed.items c.as_slice-in-Ok-place.result.now c.in-Ok.ensures.ok
    c.as_slice-in-Ok-place.ensures.value c.in-Ok-place.ensures.removed in
    let within = taken_fits (overlaps_stock c.args.stock.row.path) (is_clear_stock c.args.stock.row.path) (λ s. refl) c.self.inside.held (held_bytes c.as_slice-in-Ok-place.result.now)
    (stocks_of c.self.inside.trie) c.as_slice-in-Ok-place.result.now c.self.invariant.counted out refl in
    search rules

pub overflow_sub-self : goal.overflow_sub-self
overflow_sub-self c =
    taken_fits (overlaps_stock c.args.stock.row.path) (is_clear_stock c.args.stock.row.path) (λ s. refl) c.self.inside.held c.held_all.result (stocks_of c.self.inside.trie)
    c.as_slice-in-Ok-place.result.now c.self.invariant.counted
    (own_taken c.args.stock c.in-Ok.path (stocks_of c.self.inside.trie) c.place.new.removed.items c.as_slice-in-Ok-place.result.now c.in-Ok.ensures.ok
    c.as_slice-in-Ok-place.ensures.value c.in-Ok-place.ensures.removed) c.held_all.ensures

pub overflow_add-self : goal.overflow_add-self
overflow_add-self c =
    let out = own_taken c.args.stock c.in-Ok.path (stocks_of c.self.inside.trie) c.place.new.removed.items c.as_slice-in-Ok-place.result.now c.in-Ok.ensures.ok
    c.as_slice-in-Ok-place.ensures.value c.in-Ok-place.ensures.removed in
    let same = held_placed c.args.stock (stocks_of c.self.inside.trie) c.as_slice-in-Ok-place.result.now c.self.inside.held c.held_all.result c.held_of-bytes.result
    c.self.invariant.counted out c.held_all.ensures c.held_of-bytes.ensures in
    let few = subst (λ (ss : List Stock). held_bytes (put_stock c.args.stock (filter (is_clear_stock c.args.stock.row.path) ss)) < 2 ^ 64) (sym c.self.view_is) c.requires.few in
    let small = subst (λ (n : ℕ). n < 2 ^ 64) (sym same) few in
    omega (arith, small)

pub invariant_of-self : goal.invariant_of-self
invariant_of-self c =
    whole_placed c.args.stock c.self.inside.trie c.place.new.trie c.self.inside.held c.held_all.result c.held_of-bytes.result c.as_slice-in-Ok-place.result.now c.self.invariant
    (own_place c.args.stock c.in-Ok.path c.place.new.trie (stocks_of c.self.inside.trie) c.in-Ok.ensures.ok c.in-Ok-place.ensures.trie)
    (own_taken c.args.stock c.in-Ok.path (stocks_of c.self.inside.trie) c.place.new.removed.items c.as_slice-in-Ok-place.result.now c.in-Ok.ensures.ok
    c.as_slice-in-Ok-place.ensures.value c.in-Ok-place.ensures.removed) c.held_all.ensures c.held_of-bytes.ensures

pub returns-in-Ok-place-clause-stocks : goal.returns-in-Ok-place-clause-stocks
returns-in-Ok-place-clause-stocks c =
    list_placed c.args.stock c.self.inside.trie c.place.new.trie c.args.self.now _ c.self.view_is refl
    (own_place c.args.stock c.in-Ok.path c.place.new.trie (stocks_of c.self.inside.trie) c.in-Ok.ensures.ok c.in-Ok-place.ensures.trie)

pub returns-in-Ok-place-clause-rows : goal.returns-in-Ok-place-clause-rows
returns-in-Ok-place-clause-rows c = ap rows_of (returns-in-Ok-place-clause-stocks c) ∙ rows_placed c.args.stock c.args.self.now
