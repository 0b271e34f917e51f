use Rattle.std.proofs.Common.{◌≡◌, ◌≤◌, length}
use Rattle.buckd.specs.Sound.{IsSound}
use Rattle.buckd.specs.Streams.{IsSmall}
use Rattle.buckd.proofs.ReplayLemmas.{Taken}
use Rattle.buckd.proofs.replay.read_with.Given as goal

-- some bytes were taken, and the run stands behind them; no count fell
abbrev pub invariant-chunks : goal.invariant-chunks
invariant-chunks g l = record {
  sound : IsSound l.session.daemon;
  small : IsSmall l.session;
  room : length l.buffer ≡ 65536;
  taken : Taken l.limit l.left (g.S.Source.left l.fn.input) (g.S.Source.left l.input) (g.T.Sink.out l.fn.output) (g.T.Sink.out l.output) l.session;
  source : g.S.Source.faults l.fn.input ≤ g.S.Source.faults l.input;
  sink : g.T.Sink.faults l.fn.output ≤ g.T.Sink.faults l.output;
}

abbrev pub decreases-chunks : goal.decreases-chunks
decreases-chunks g l = l.left
