use Rattle.hall_lock.proofs.CloseLemmas.{all_keep}
use Rattle.hall_lock.proofs.lock.HallLock.close.Goals as goal

pub returns-clause-passes : goal.returns-clause-passes
returns-clause-passes g c = all_keep _ _ _ _ c.gather-seat.ensures.all c.take_out.ensures.closed.all
