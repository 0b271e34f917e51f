use Rattle.std.proofs.Common.{◌≡◌}
use Rattle.region_port.specs.Memory.{region_place}
use Rattle.job_run.proofs.tests.put_all.Given as goal

-- the region stays at its place
abbrev pub invariant-loop-rel : goal.invariant-loop-rel
invariant-loop-rel l = region_place l.region ≡ region_place l.initial.region
