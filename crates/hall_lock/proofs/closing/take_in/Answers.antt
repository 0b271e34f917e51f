use Rattle.std.proofs.Common.{rules}
use Rattle.hall_lock.proofs.OrderKept.{joins}
use Rattle.hall_lock.proofs.closing.take_in.Goals as goal

pub join_seat-requires : goal.join_seat-requires
join_seat-requires g c = (search rules, search rules, search rules, search rules, joins _ _ _ _ _ _ _ _ c.requires.rests c.into_seat.ensures.rests.0)
