use Rattle.std.proofs.Common.{length}
use Rattle.region_port.proofs.StrayLemmas.{Scans}
use Rattle.region_port.proofs.strays.topmost.Given as goal

abbrev pub invariant-paths : goal.invariant-paths
invariant-paths l = Scans l.initial.paths.keys l.found.items l.paths.keys

abbrev pub decreases-paths : goal.decreases-paths
decreases-paths l = length l.paths.keys
