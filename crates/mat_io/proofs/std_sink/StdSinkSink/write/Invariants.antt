use Rattle.std.proofs.Common.{◌≡◌, ◌-◌, ◌≤◌, length, take}
use Rattle.mat_io.specs.Streams.{Grows}
use Rattle.mat_io.proofs.std_sink.StdSinkSink.write.Given as goal

abbrev pub invariant-pieces : goal.invariant-pieces
invariant-pieces g l = record {
  within : l.at ≤ length l.bytes;
  grown : Grows (g.W.Write.contents l.initial.self.inner) (g.W.Write.contents l.self.inner) (take l.at l.bytes);
  same : l.self.faults ≡ l.initial.self.faults;
}

abbrev pub decreases-pieces : goal.decreases-pieces
decreases-pieces g l = length l.bytes - l.at
