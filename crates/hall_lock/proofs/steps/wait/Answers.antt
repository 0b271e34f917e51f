use Rattle.std.proofs.Common.{rules, ap, ◌∙◌}
use Rattle.hall_lock.proofs.OrderKept.{looks}
use Rattle.hall_lock.proofs.steps.wait.Goals as goal

pub load-requires : goal.load-requires
load-requires g c =
    let same = c.loop.invariant.1 in let w = c.requires.waits in
    (search rules, search rules, looks _ _ _ _ _ _ _ w.1.0 (ap (λ m. m.0.stage) same ∙ w.1.1) (ap (λ m. m.1) same ∙ w.0))
