use Rattle.std.proofs.Common.{[]}
use Rattle.restart_scan.proofs.ReadRows.{reads_on}
use Rattle.restart_scan.proofs.StoredRows.{kept_grows}
use Rattle.restart_scan.specs.Rows as Spec
use Rattle.restart_scan.proofs.reading.read_each.Goals as goal

pub loop-raw-preserved : goal.loop-raw-preserved
loop-raw-preserved c =
    let old = Spec.kept_in c.loop-raw.rows.entries in
    let now = Spec.kept_in c.add_one.new.rows.entries in
    record {
      left = reads_on c.args.identity old now c.args.raws.now c.loop-raw.raw-index c.raw-item.result (Spec.read_more c.args.identity [] c.args.raws.now)
          c.loop-raw-test.true c.raw-item.is c.in_ok-add_one.ensures.adds c.loop-raw.invariant.left;
      store = kept_grows c.args.identity c.args.raws.now c.loop-raw.raw-index c.raw-item.result old now c.requires c.loop-raw-test.true c.raw-item.is
          c.in_ok-add_one.ensures.added c.loop-raw.invariant.store;
    }
