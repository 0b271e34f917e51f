use Rattle.std.proofs.Common.{subst, sym, ◌≡◌, true}
use Rattle.write_plan.specs.Plans.{may_lend}
use Rattle.mat_core.proofs.LendLemmas.{reads_lend}
use Rattle.mat_core.proofs.parts.Parts.order_make.Goals as goal

pub aim_at-requires : goal.aim_at-requires
aim_at-requires g c =
    subst (λ b. may_lend c.args.stock.now.method b c.args.stock.now.row.tree ≡ true) (sym c.is_some.ensures)
    (reads_lend c.args.self.now.rows c.args.stock.now.method c.args.stock.now.row.tree c.in_ok-source.source c.in_ok-source.ensures c.requires)
