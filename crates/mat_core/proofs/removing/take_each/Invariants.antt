use Rattle.std.specs.Vec.{vec_capacity}
use Rattle.mat_core.proofs.RemoveLemmas.{IsTaking}
use Rattle.mat_core.proofs.removing.take_each.Given as goal

abbrev pub invariant-loop-path : goal.invariant-loop-path
invariant-loop-path l = IsTaking l.paths l.path-index l.fn.rows l.rows l.fn.taken.items l.taken.items (vec_capacity l.taken)
