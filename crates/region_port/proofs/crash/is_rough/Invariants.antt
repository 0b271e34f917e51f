use Rattle.std.proofs.Common.{◌≡◌, map}
use Rattle.std.specs.List.{list_any}
use Rattle.region_port.specs.Crashes.{is_above}
use Rattle.region_port.specs.Lists.{all_of}
use Rattle.region_port.proofs.crash.is_rough.Given as goal

-- whether one of the segments so far has a path that is at or above
abbrev pub invariant-loop-segment : goal.invariant-loop-segment
invariant-loop-segment l = l.found ≡ list_any (is_above l.path) (all_of (map (λ s. s.now) l.yielded))
