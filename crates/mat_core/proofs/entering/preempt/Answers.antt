use Rattle.std.proofs.Common.{rules, refl}
use Rattle.mat_core.proofs.EnterLemmas.{last_holds, last_tickets, next_holds, next_tickets}
use Rattle.mat_core.proofs.entering.preempt.Goals as goal

pub loop-gone-preserved : goal.loop-gone-preserved
loop-gone-preserved c = (
  next_holds c.args.commands.now c.loop-gone.gone-index _ 0 _ c.loop-gone.holds c.drop_all.new.self c.loop-gone-test.true refl c.drop_all.ensures
      c.loop-gone.invariant.0,
  next_tickets c.args.commands.now c.args.number c.args.command c.loop-gone.gone-index _ 0 _ c.loop-gone.tickets.all c.answer_command.new.self.all
      c.loop-gone-test.true refl (search rules) c.loop-gone.invariant.1,
)

pub returns-clause-holds : goal.returns-clause-holds
returns-clause-holds c =
    last_holds c.args.commands.now c.loop-gone.gone-index _ c.loop-gone.holds (search rules) c.loop-gone.invariant.0

pub returns-clause-tickets : goal.returns-clause-tickets
returns-clause-tickets c =
    last_tickets c.args.commands.now c.args.number c.args.command c.loop-gone.gone-index _ c.loop-gone.tickets.all (search rules)
    c.loop-gone.invariant.1
