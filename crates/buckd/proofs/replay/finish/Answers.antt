use Rattle.std.proofs.Common.{refl, sym, ◌∙◌}
use Rattle.buckd.proofs.ReplayLemmas.{ran_failed, ran_memory}
use Rattle.buckd.proofs.replay.finish.Goals as goal

pub returns-in-Failed-clause-ran : goal.returns-in-Failed-clause-ran
returns-in-Failed-clause-ran g c = λ limit bytes left before ran.
    ran_failed limit bytes left before (g.T.Sink.out c.args.output.now) (g.T.Sink.out c.flush.new.output) c.args.session.now _ c.args.ending
    (sym c.is_lost.ensures ∙ c.if-is_lost.false) refl c.in-Failed.ensures.flows ran

pub returns-in-NoMemory-clause-ran : goal.returns-in-NoMemory-clause-ran
returns-in-NoMemory-clause-ran g c = λ limit bytes left before ran.
    ran_memory limit bytes left before (g.T.Sink.out c.args.output.now) (g.T.Sink.out c.flush.new.output) c.args.session.now
    record { daemon = c.args.session.now.daemon; gathered = c.flush.new.gathered; partial = c.args.session.now.partial } c.args.ending
    (sym c.is_lost.ensures ∙ c.if-is_lost.false) c.in-NoMemory.ensures.flows ran
