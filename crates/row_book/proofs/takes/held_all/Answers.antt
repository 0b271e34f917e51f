use Rattle.std.proofs.Common.{arith}
use Rattle.row_book.proofs.HeldLemmas.{held_step}
use Rattle.row_book.proofs.takes.held_all.Goals as goal

pub overflow_add-held : goal.overflow_add-held
overflow_add-held c =
    let less = held_step c.args.stocks.now c.loop-stock.stock-index c.stock-item.result c.loop-stock.held c.held_of-held.result c.loop-stock.invariant c.held_of-held.ensures c.stock-item.is
    c.loop-stock-test.true in
    let few = c.requires in
    omega (arith, less, few)
