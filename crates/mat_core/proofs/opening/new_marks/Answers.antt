use Rattle.std.proofs.Common.{◌∙◌}
use Rattle.mat_core.proofs.OpeningLemmas.{more_marks}
use Rattle.mat_core.proofs.opening.new_marks.Goals as goal

pub loop-row-preserved : goal.loop-row-preserved
loop-row-preserved c = (
  more_marks c.args.rows.now c.loop-row.row-index c.row-item.result c.loop-row.book.marks c.put.new.self.marks c.requires c.loop-row-test.true
      c.row-item.is c.loop-row.invariant.0 c.in_ok-put.ensures.marks,
  c.put.ensures.reserved ∙ c.loop-row.invariant.1,
)
