use Rattle.std.proofs.Common.{◌≤◌, count_by, subst, sym}
use Rattle.mat_core.specs.Falling.{is_unkept}
use Rattle.mat_core.specs.Removing.{taken_at}
use Rattle.mat_core.proofs.parts.Parts.sweep.Goals as goal

pub remove_rows-requires-clause-counted : goal.remove_rows-requires-clause-counted
remove_rows-requires-clause-counted g c =
    subst (λ ms. count_by (is_unkept ms) (taken_at c.args.rows.now c.args.self.now.rows) ≤ c.args.self.now.paths) (sym c.remove_all.ensures.marks) c.requires.counted
