use Rattle.std.proofs.Common.{◌≡◌}
use Rattle.hall_lock.specs.Told.{IsSameSeat}
use Rattle.hall_lock.proofs.steps.wait.Given as goal

abbrev pub invariant-loop : goal.invariant-loop
invariant-loop g l = IsSameSeat l.initial.seat l.seat × (l.seat.me ≡ l.initial.seat.me) × (goal.iterator-loop g).can_next l.iterator' × (goal.iterator-loop g).is_finite l.iterator'
