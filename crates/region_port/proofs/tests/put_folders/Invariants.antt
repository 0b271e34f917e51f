use Rattle.std.proofs.Common.{◌≡◌}
use Rattle.region_port.proofs.tests.put_folders.Given as goal

-- the part stays where it is
abbrev pub invariant-loop-rel : goal.invariant-loop-rel
invariant-loop-rel g l = g.R.Region.place l.region ≡ g.R.Region.place l.initial.region
