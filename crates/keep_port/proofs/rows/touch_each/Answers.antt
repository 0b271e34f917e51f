use Rattle.std.proofs.Common.{arith, ap, ◌∙◌, get_or, slice_set}
use Rattle.std.proofs.lemmas.List.Edits.{map_over_more}
use Rattle.keep_port.specs.declared.row.RawRow.{RawRow}
use Rattle.keep_port.specs.Rows.{touched}
use Rattle.keep_port.proofs.rows.touch_each.Goals as goal

pub loop-row-preserved : goal.loop-row-preserved
loop-row-preserved c =
    ap (λ (row : RawRow). slice_set c.loop-row.rows c.loop-row.row-index row) c.touch_row.ensures
    ∙ map_over_more (touched c.args.path.now c.args.last) c.args.rows.now c.loop-row.rows c.loop-row.row-index
    (get_or c.loop-row.rows c.loop-row.row-index c.row-item.result)
    (omega arith) c.loop-row.invariant (ap (λ (row : RawRow). get_or c.loop-row.rows c.loop-row.row-index row) c.row-item.is)
