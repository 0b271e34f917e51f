use Rattle.std.proofs.Common.{◌≡◌, ◌+◌, [], ◌∷◌, ◌++◌, length, map, All, vec_len}
use Rattle.hall_lock.specs.Order.{as_joined}
use Rattle.hall_lock.specs.Told.{ended}
use Rattle.hall_lock.specs.declared.seat.Stage.TheVariants.{Resting}
use Rattle.hall_lock.proofs.closing.gather.Given as goal

abbrev pub decreases-passes : goal.decreases-passes
decreases-passes g l = vec_len l.passes

abbrev pub invariant-passes : goal.invariant-passes
invariant-passes g l = record {
  same : l.seat.table_id ≡ l.board.table_id;
  rests : l.seat.me.0.stage ≡ Resting;
  slot : l.seat.me.1 ≡ [];
  parts : l.seat.me.0.parts + length l.passes.items ≡ length l.fn.passes.items;
  own : All (λ pass. pass.lock ≡ l.board.table_id) l.passes.items;
  joined : map ended l.passes.items ++ (l.seat.me.0.joined ++ as_joined l.seat.me.0 ∷ []) ≡ map ended l.fn.passes.items;
}
