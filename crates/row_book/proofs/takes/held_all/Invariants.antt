use Rattle.std.proofs.Common.{◌≡◌, take}
use Rattle.row_book.specs.Stocks.{held_bytes}
use Rattle.row_book.proofs.takes.held_all.Given as goal

abbrev pub invariant-loop-stock : goal.invariant-loop-stock
invariant-loop-stock l = l.held ≡ held_bytes (take l.stock-index l.stocks)
