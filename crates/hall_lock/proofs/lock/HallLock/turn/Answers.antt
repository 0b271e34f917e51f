use Rattle.hall_lock.proofs.lock.HallLock.turn.Goals as goal

pub returns-clause-turn : goal.returns-clause-turn
returns-clause-turn g c = c.take_turn.ensures.turn c.args.self.now.base c.requires.own.1
