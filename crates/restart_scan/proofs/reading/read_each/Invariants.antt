use Rattle.std.proofs.Common.{◌≡◌, [], drop, take}
use Rattle.restart_scan.specs.Rows as Spec
use Rattle.restart_scan.specs.Stores.{AreOf}
use Rattle.restart_scan.proofs.reading.read_each.Given as goal

-- what is left leads to what all lead to, and the rows so far are those that were read
abbrev pub invariant-loop-raw : goal.invariant-loop-raw
invariant-loop-raw l = record {
  left : Spec.read_more l.identity (Spec.kept_in l.rows.entries) (drop l.raw-index l.raws) ≡ Spec.read_more l.identity [] l.raws;
  store : AreOf l.identity (Spec.kept_in l.rows.entries) (take l.raw-index l.raws);
}
