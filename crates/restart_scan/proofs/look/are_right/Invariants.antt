use Rattle.std.proofs.Common.{◌≡◌, drop}
use Rattle.std.specs.List.{list_all}
use Rattle.std.specs.Option.{ForSome}
use Rattle.mat_tree.specs.Parts.{Part}
use Rattle.restart_scan.specs.Looks as Spec
use Rattle.restart_scan.proofs.look.are_right.Given as goal

-- the part is as it was, and of the nodes left all are right just where all are
abbrev pub invariant-loop-node : goal.invariant-loop-node
invariant-loop-node g l = record {
  place : g.R.Region.place l.region ≡ g.R.Region.place l.initial.region;
  part : g.R.Region.part l.region ≡ g.R.Region.part l.initial.region;
  rough : g.R.Region.rough l.region ≡ g.R.Region.rough l.initial.region;
  left : ForSome (g.R.Region.part l.initial.region) (λ (part : Part).
      list_all (Spec.is_right part) (drop l.node-index l.nodes) ≡ list_all (Spec.is_right part) l.nodes);
}
