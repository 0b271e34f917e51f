use Rattle.std.specs.Vec.{vec_capacity}
use Rattle.row_book.proofs.TakeLemmas.{IsTaking}
use Rattle.row_book.proofs.takes.take_each.Given as goal

abbrev pub invariant-loop-path : goal.invariant-loop-path
invariant-loop-path l = IsTaking l.paths l.path-index l.fn.trie l.trie l.fn.removed.items l.removed.items (vec_capacity l.removed)
