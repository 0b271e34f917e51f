use Rattle.std.proofs.Common.{arith, ap, ◌∙◌, get_or, slice_set}
use Rattle.std.proofs.lemmas.List.Edits.{map_over_more}
use Rattle.job_book.specs.declared.running.Running.{Running}
use Rattle.job_book.specs.Numbers.{marked}
use Rattle.job_book.proofs.list.mark_each.Goals as goal

pub loop-running-preserved : goal.loop-running-preserved
loop-running-preserved c =
    ap (λ (running : Running). slice_set c.loop-running.list c.loop-running.running-index running) c.mark.ensures
    ∙ map_over_more (marked c.args.path.now c.args.stamp) c.args.list.now c.loop-running.list c.loop-running.running-index
    (get_or c.loop-running.list c.loop-running.running-index c.running-item.result)
    (omega arith) c.loop-running.invariant (ap (λ (running : Running). get_or c.loop-running.list c.loop-running.running-index running) c.running-item.is)
