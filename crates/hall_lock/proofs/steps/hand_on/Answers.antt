use Rattle.std.proofs.Common.{rules}
use Rattle.hall_lock.proofs.OrderKept.{hands_on}
use Rattle.hall_lock.proofs.steps.hand_on.Goals as goal

pub fetch_add-requires : goal.fetch_add-requires
fetch_add-requires g c = let v = c.requires.value in (search rules, search rules, hands_on _ _ _ _ _ _ _ _ v.0 c.requires.serves.1 v.1 v.2 v.3)
