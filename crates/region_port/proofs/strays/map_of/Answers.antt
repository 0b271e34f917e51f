use Rattle.std.proofs.Common.{ap, ◌∙◌}
use Rattle.region_port.specs.Strays.{is_clear}
use Rattle.region_port.proofs.StrayLemmas.{clear_put}
use Rattle.region_port.proofs.strays.map_of.Goals as goal

pub loop-path-preserved : goal.loop-path-preserved
loop-path-preserved c q =
    ap (λ map. is_clear map q) c.in_ok-add_path.ensures
    ∙ clear_put c.loop-path.map c.args.paths.now c.loop-path.path-index c.path-item.result q tt c.loop-path-test.true c.path-item.is (c.loop-path.invariant q)
