use Rattle.stale_pick.proofs.Feeding.{fed_next}
use Rattle.stale_pick.proofs.picking.pick.Goals as goal

pub loop-row-preserved : goal.loop-row-preserved
loop-row-preserved g c =
    fed_next c.args.cutoff (g.H.Holding.holds c.args.holds.now) c.args.rows.now c.loop-row.row-index c.row-item.result c.loop-row.picker c.feed.new.self
    c.loop-row-test.true c.row-item.is c.loop-row.invariant c.in_ok-feed.ensures
