use Rattle.std.proofs.Common.{◌∙◌, ◌++◌, ap, subst, sym, ℕ, ◌+◌}
use Rattle.row_book.specs.Whole.{listed}
use Rattle.row_book.proofs.TakeLemmas.{IsTaking, taking_next, taking_room}
use Rattle.row_book.proofs.takes.take_each.Goals as goal

pub loop-path-preserved : goal.loop-path-preserved
loop-path-preserved c =
    subst (λ (room : ℕ). IsTaking c.args.paths.now (c.loop-path.path-index + 1) c.args.trie.now c.take_one-stock.new.trie c.args.removed.now.items c.keep.new.removed.items room)
    (sym c.keep.ensures.capacity)
    (taking_next c.args.paths.now c.loop-path.path-index c.path-item.result c.path-item.result c.args.trie.now c.loop-path.trie c.take_one-stock.new.trie c.args.removed.now.items
    c.loop-path.removed.items c.keep.new.removed.items _ c.loop-path.invariant c.loop-path-test.true c.path-item.is c.take_one-stock.ensures.trie
    (c.keep.ensures.list ∙ ap (λ o. c.loop-path.removed.items ++ listed o) c.take_one-stock.ensures.stock))

pub keep-requires : goal.keep-requires
keep-requires c = taking_room c.args.paths.now c.loop-path.path-index c.args.trie.now c.loop-path.trie c.args.removed.now.items c.loop-path.removed.items _ c.loop-path.invariant c.loop-path-test.true
