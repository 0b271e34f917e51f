use Rattle.std.proofs.Common.{rules, arith}
use Rattle.hall_lock.proofs.OrderKept.{splits}
use Rattle.hall_lock.proofs.opening.deal.Goals as goal

pub split_seat-seat-requires : goal.split_seat-seat-requires
split_seat-seat-requires g c = let p = c.loop-caller.invariant.parts in (search rules, search rules, splits _ _ _ _ _ _ _ c.loop-caller.invariant.stage (omega arith) (search rules))
