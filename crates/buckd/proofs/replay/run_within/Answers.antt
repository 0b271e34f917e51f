use Rattle.buckd.proofs.ReplayLemmas.{replays}
use Rattle.buckd.proofs.replay.run_within.Goals as goal

pub read_all-ran-requires-clause-start : goal.read_all-ran-requires-clause-start
read_all-ran-requires-clause-start g c = c.new-session.ensures.start (g.T.Sink.out c.args.output.now)

pub returns-clause-replays : goal.returns-clause-replays
returns-clause-replays g c =
    replays c.args.limit (g.S.Source.left c.args.input.now) _ (g.T.Sink.out c.args.output.now) _ c.finish-ending.new.session c.finish-ending.result c.make_ended.result
    c.make_ended.ensures.status c.make_ended.ensures.leaves c.finish-ending.ensures.out
    (c.finish-ending.ensures.ran c.args.limit _ _ _ c.read_all-ran.ensures.ran)
