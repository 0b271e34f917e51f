use Rattle.std.proofs.Common.{◌∙◌, ◌++◌, ap, subst, sym, ℕ, ◌+◌}
use Rattle.row_book.specs.Whole.{listed}
use Rattle.mat_core.proofs.RemoveLemmas.{IsTaking, taking_next, taking_room}
use Rattle.mat_core.proofs.removing.take_each.Goals as goal

pub loop-path-preserved : goal.loop-path-preserved
loop-path-preserved c =
    subst (λ (room : ℕ). IsTaking c.args.paths.now (c.loop-path.path-index + 1) c.args.rows.now c.remove-stock.new.self c.args.taken.now.items c.keep.new.taken.items room)
    (sym c.keep.ensures.capacity)
    (taking_next c.args.paths.now c.loop-path.path-index c.path-item.result c.path-item.result c.args.rows.now c.loop-path.rows c.remove-stock.new.self c.args.taken.now.items
    c.loop-path.taken.items c.keep.new.taken.items _ c.loop-path.invariant c.loop-path-test.true c.path-item.is c.remove-stock.ensures.stocks
    (c.keep.ensures.list ∙ ap (λ o. c.loop-path.taken.items ++ listed o) c.remove-stock.ensures.stock))

pub keep-requires : goal.keep-requires
keep-requires c = taking_room c.args.paths.now c.loop-path.path-index c.args.rows.now c.loop-path.rows c.args.taken.now.items c.loop-path.taken.items _ c.loop-path.invariant c.loop-path-test.true
