use Rattle.std.proofs.Common.{◌≡◌, drop, map}
use Rattle.restart_scan.specs.Rows as Spec
use Rattle.restart_scan.proofs.reading.overlap_behind.Given as goal

-- what is left leads to what all lead to
abbrev pub invariant-loop-next : goal.invariant-loop-next
invariant-loop-next l = Spec.overlap_behind (Spec.kept_view l.row) (map Spec.kept_view (drop l.next-index l.rest))
    ≡ Spec.overlap_behind (Spec.kept_view l.first) (map Spec.kept_view l.rest)
