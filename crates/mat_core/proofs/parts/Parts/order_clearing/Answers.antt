use Rattle.std.proofs.Common.{◌∙◌, arith}
use Rattle.mat_core.proofs.OverlapLemmas.{overlap_few}
use Rattle.mat_core.proofs.parts.Parts.order_clearing.Goals as goal

pub overflow_add-pieces : goal.overflow_add-pieces
overflow_add-pieces g c =
    let few = (overlap_few c.args.path.now c.args.self.now.kept.marks c.args.self.now.rows c.in-Ok.listed c.in-Ok.ensures).1 in
    let jobs = c.len.ensures in
    let rows = c.len-2.ensures ∙ c.in-Ok.listed.rows.ok.0 in
    let fits = c.requires.few in
    omega (arith, few, jobs, rows, fits)
