use Rattle.std.proofs.Common.{rules}
use Rattle.hall_lock.proofs.OrderKept.{publishes}
use Rattle.hall_lock.proofs.steps.publish.Goals as goal

pub fetch_add-requires : goal.fetch_add-requires
fetch_add-requires g c = let v = c.requires.value in (search rules, search rules, publishes _ _ _ _ _ _ _ _ v.0 _ c.requires.serves.1 v.1 v.2 v.3)
