use Rattle.mat_path.proofs.ReadLemmas.{joined_step}
use Rattle.mat_path.proofs.name.joined_from.Goals as goal

pub loop-name-preserved : goal.loop-name-preserved
loop-name-preserved c =
    joined_step c.loop-name.text.items _ c.args.first.now _ c.args.rest.now c.loop-name.name-index c.loop-name-test.true c.name-item.is c.loop-name.invariant c.in_ok-append.ensures
