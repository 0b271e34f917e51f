use Rattle.std.proofs.Common.{rules}
use Rattle.hall_lock.proofs.TurnLemmas.{next_small, next_pass, later_at, turn_at}
use Rattle.hall_lock.proofs.pass.Pass.take_turn.Goals as goal

pub overflow_add-self : goal.overflow_add-self
overflow_add-self g c =
    let small = next_small _ _ _ _ _ _ c.self.inside.length c.self.inside.seat c.take_turn-growth.new.seat c.self.invariant _ _ c.take_turn-growth.ensures.served in
    search rules

pub invariant_of-self : goal.invariant_of-self
invariant_of-self g c = next_pass _ _ _ _ _ _ c.self.inside.length c.self.inside.seat c.take_turn-growth.new.seat c.self.invariant _ _ c.take_turn-growth.ensures.served

pub returns-clause-turn : goal.returns-clause-turn
returns-clause-turn g c = turn_at _ _ _ _ _ _ c.self.inside.length c.self.inside.seat c.take_turn-growth.new.seat c.self.invariant _ _ c.take_turn-growth.ensures.served c.args.self.now c.self.view_is

pub returns-clause-later : goal.returns-clause-later
returns-clause-later g c = later_at _ _ _ _ _ _ c.self.inside.length c.self.inside.seat c.take_turn-growth.new.seat c.self.invariant _ _ c.take_turn-growth.ensures.served c.args.self.now c.self.view_is
