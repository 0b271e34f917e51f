use Rattle.std.proofs.Common.{sym, ◌∙◌, ap, arith}
use Rattle.script_lang.specs.Items.{item_of}
use Rattle.script_lang.proofs.BoundsLemmas.{item_of_has_bounds}
use Rattle.script_lang.proofs.ItemsIs.{item_text-item_of}
use Rattle.script_lang.proofs.lines.read_line.Goals as goal

pub returns-in-Ok-Some-clause-bounds : goal.returns-in-Ok-Some-clause-bounds
returns-in-Ok-Some-clause-bounds c = item_of_has_bounds c.args.workers c.of.result c.in-Ok-Some.item (sym c.in-Ok-Some.ensures.ok ∙ c.in-Ok-Some.field-0-is)

pub returns-in-Ok-Some-clause-text : goal.returns-in-Ok-Some-clause-text
returns-in-Ok-Some-clause-text c =
    item_text-item_of c.args.workers c.args.line.now c.in-Ok-Some.item (omega (arith, c.ranges.workers.fits))
    (ap (item_of c.args.workers) (sym c.of.ensures) ∙ sym c.in-Ok-Some.ensures.ok ∙ c.in-Ok-Some.field-0-is)
