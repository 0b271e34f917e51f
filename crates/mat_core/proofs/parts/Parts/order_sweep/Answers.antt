use Rattle.std.proofs.Common.{◌∙◌, arith}
use Rattle.mat_core.proofs.SweepLists.{sweep_few}
use Rattle.mat_core.proofs.parts.Parts.order_sweep.Goals as goal

pub overflow_add-pieces : goal.overflow_add-pieces
overflow_add-pieces g c =
    let few = (sweep_few _ _ _ _ _ _ _ c.in-Ok.sweep c.in-Ok.ensures).1 in
    let jobs = c.len.ensures in
    let rows = c.len-2.ensures ∙ c.in-Ok.sweep.rows.ok.0 in
    let fits = c.requires.few in
    omega (arith, few, jobs, rows, fits)
