use Rattle.std.proofs.Common.{◌≡◌, take}
use Rattle.stale_pick.specs.Picks.{picking_of}
use Rattle.stale_pick.proofs.picking.pick.Given as goal

abbrev pub invariant-loop-row : goal.invariant-loop-row
invariant-loop-row g l = l.picker ≡ picking_of l.cutoff (g.H.Holding.holds l.holds) (take l.row-index l.rows)
