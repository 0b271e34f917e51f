use Rattle.holder_book.specs.Counts.{AreCounted}
use Rattle.holder_book.proofs.CountLemmas.{left_from}
use Rattle.holder_book.proofs.counts.take_all.Given as goal

abbrev pub invariant-loop-hold : goal.invariant-loop-hold
invariant-loop-hold l = AreCounted (left_from l.command l.hold-index l.holds) l.counts
