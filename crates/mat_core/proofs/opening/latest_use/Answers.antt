use Rattle.mat_core.proofs.OpeningLemmas.{latest_more}
use Rattle.mat_core.proofs.opening.latest_use.Goals as goal

pub loop-row-preserved : goal.loop-row-preserved
loop-row-preserved c =
    latest_more c.args.rows.now c.loop-row.row-index c.row-item.result c.loop-row.latest c.max-latest.result c.loop-row-test.true c.row-item.is
    c.loop-row.invariant c.max-latest.ensures
