use Rattle.std.proofs.Common.{◌∙◌, ◌+◌, length, sym, subst}
use Rattle.mat_core.specs.Books.{StandFor}
use Rattle.mat_core.specs.Ending.{done_entry, reply_ended}
use Rattle.mat_model.specs.History.{after}
use Rattle.mat_core.proofs.EndLemmas.{fresh_is}
use Rattle.mat_core.proofs.EndPoints.{end_stands, next_is, rows_apart}
use Rattle.mat_core.proofs.EndRooms.{end_reserves, may_enter}
use Rattle.mat_core.proofs.parts.Parts.enter_end.Goals as goal

pub enter_done-requires-clause-may : goal.enter_done-requires-clause-may
enter_done-requires-clause-may g c =
    may_enter (c.args.self.now.first + length c.args.self.now.history.items) c.args.running c.args.outcome c.args.self.now c.requires.was

pub returns-clause-fresh : goal.returns-clause-fresh
returns-clause-fresh g c =
    let number = c.args.self.now.first + length c.args.self.now.history.items in
    let was = c.requires.was in
    c.enter_done.ensures.counted
    ∙ fresh_is c.args.running.card.task c.args.outcome c.args.self.now.rows
    (rows_apart number c.args.by c.args.running c.args.outcome c.args.how c.args.self.now c.enter_done.new.self was was.rules.point was.rules.stands was.rules.rules was.rules.next)

pub returns-clause-stands : goal.returns-clause-stands
returns-clause-stands g c was point stands rules =
    let number = c.args.self.now.first + length c.args.self.now.history.items in
    subst (λ b. StandFor c.enter_done.new.self
    (after point (done_entry c.args.by point.book.now c.args.running.card.job c.args.outcome (reply_ended b c.args.how)))) (sym c.enter_done.ensures.counted)
    (end_stands number c.args.by c.args.running c.args.outcome c.args.how c.args.self.now c.enter_done.new.self was point stands rules
    (next_is number c.args.running c.args.self.now was point stands) c.requires.ends c.requires.how c.enter_done.ensures.entered)

pub returns-clause-reserves : goal.returns-clause-reserves
returns-clause-reserves g c =
    end_reserves (c.args.self.now.first + length c.args.self.now.history.items) c.args.running c.args.outcome c.args.self.now c.requires.was c.args.by c.args.how
    c.enter_done.new.self c.enter_done.ensures.entered
