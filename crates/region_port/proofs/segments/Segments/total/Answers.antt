use Rattle.std.proofs.Common.{arith}
use Rattle.region_port.proofs.Lists.{count_of_pushed}
use Rattle.region_port.proofs.segments.Segments.total.Goals as goal

pub loop-segment-preserved : goal.loop-segment-preserved
loop-segment-preserved g c = grind (arith, count_of_pushed c.loop-segment.yielded c.in-Some.segment)
