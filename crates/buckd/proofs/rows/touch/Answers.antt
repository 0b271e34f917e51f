use Rattle.std.proofs.Common.{arith, ap, ◌∙◌, get_or, slice_set}
use Rattle.std.proofs.lemmas.List.Edits.{map_over_more}
use Rattle.mat_model.specs.declared.book.Row.{Row}
use Rattle.mat_model.specs.Rows.{used_row}
use Rattle.buckd.proofs.rows.touch.Goals as goal

pub loop-row-preserved : goal.loop-row-preserved
loop-row-preserved c =
    ap (λ (row : Row). slice_set c.loop-row.rows c.loop-row.row-index row) c.touch_row.ensures
    ∙ map_over_more (used_row c.args.path.now c.args.moment) c.args.rows.now c.loop-row.rows c.loop-row.row-index
    (get_or c.loop-row.rows c.loop-row.row-index c.row-item.result)
    (omega arith) c.loop-row.invariant (ap (λ (row : Row). get_or c.loop-row.rows c.loop-row.row-index row) c.row-item.is)
