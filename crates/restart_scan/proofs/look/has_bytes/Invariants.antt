use Rattle.std.proofs.Common.{◌≡◌, ◌+◌, ◌-◌}
use Rattle.restart_scan.specs.Looks as Spec
use Rattle.restart_scan.proofs.look.has_bytes.Given as goal

-- the part is as it was, and its file is read up to here
abbrev pub invariant-loop-at : goal.invariant-loop-at
invariant-loop-at g l = record {
  place : g.R.Region.place l.region ≡ g.R.Region.place l.initial.region;
  part : g.R.Region.part l.region ≡ g.R.Region.part l.initial.region;
  rough : g.R.Region.rough l.region ≡ g.R.Region.rough l.initial.region;
  read : Spec.IsReadTo (g.R.Region.part l.region) l.rel l.check l.at;
}

abbrev pub decreases-loop-at : goal.decreases-loop-at
decreases-loop-at g l = l.digest.size + 1 - l.at
