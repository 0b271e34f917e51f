use Rattle.std.proofs.Common.{◌≡◌}
use Rattle.region_port.proofs.tests.put_many.Given as goal

-- the part stays where it is
abbrev pub invariant-loop-k : goal.invariant-loop-k
invariant-loop-k g l = g.R.Region.place l.region ≡ g.R.Region.place l.initial.region
