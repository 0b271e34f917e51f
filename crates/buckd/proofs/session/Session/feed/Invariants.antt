use Rattle.std.proofs.Common.{◌≤◌, length}
use Rattle.buckd.specs.Sound.{IsSound}
use Rattle.buckd.specs.Streams.{IsSmall}
use Rattle.buckd.proofs.RunLemmas.{Carried}
use Rattle.buckd.proofs.session.Session.feed.Given as goal

-- what stands before the rest of the piece was served, little is in memory, and no count fell
abbrev pub invariant-lines : goal.invariant-lines
invariant-lines g l = record {
  sound : IsSound l.self.daemon;
  small : IsSmall l.self;
  carried : Carried l.piece l.rest (g.T.Sink.out l.fn.output) (g.T.Sink.out l.output) l.fn.self l.self;
  faults : g.T.Sink.faults l.fn.output ≤ g.T.Sink.faults l.output;
}

abbrev pub decreases-lines : goal.decreases-lines
decreases-lines g l = length l.rest
