use Rattle.std.proofs.Common.{◌≤◌}
use Rattle.std.specs.Prelude.{map}
use Rattle.region_port.specs.Lists.{count_of}
use Rattle.region_port.proofs.segments.Segments.total.Given as goal

-- the segments so far have no more items
abbrev pub invariant-loop-segment : goal.invariant-loop-segment
invariant-loop-segment g l = count_of (map (λ s. s.now) l.yielded) ≤ l.total
