use Rattle.hall_lock.specs.Passes.{IsPassOf}
use Rattle.hall_lock.proofs.tests.take_turns.Given as goal

abbrev pub invariant-loop : goal.invariant-loop
invariant-loop g l = IsPassOf l.lock l.pass
