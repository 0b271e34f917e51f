use Rattle.std.proofs.Common.{rules}
use Rattle.hall_lock.proofs.OrderKept.{reaches}
use Rattle.hall_lock.proofs.steps.reach.Goals as goal

pub load-requires : goal.load-requires
load-requires g c = (search rules, search rules, reaches _ _ _ _ _ _ _ c.requires.rests)
