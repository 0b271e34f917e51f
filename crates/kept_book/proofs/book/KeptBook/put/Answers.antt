use Rattle.std.proofs.Common.{◌∙◌, ap, is_ok}
use Rattle.kept_book.specs.Marks.{Marks}
use Rattle.kept_book.specs.Spots.{mark_in, reserved_in, told_at}
use Rattle.kept_book.proofs.KeptLemmas.{marks_added, same_put, use_place, use_told}
use Rattle.kept_book.proofs.book.KeptBook.put.Goals as goal

pub returns-clause-marks : goal.returns-clause-marks
returns-clause-marks c =
    marks_added (is_ok c.add.result) c.args.path.now c.with_use-spot.result c.args.last c.args.new _ _ _ c.add.ensures
    (ap (mark_in c.args.path.now) c.with_use-spot.ensures ∙ use_told c.args.path.now _ c.args.last c.args.new)
    (ap (λ (kept : Marks). kept.marks) c.self.view_is)

pub returns-clause-reserved : goal.returns-clause-reserved
returns-clause-reserved c =
    same_put reserved_in (is_ok c.add.result) c.args.path.now c.with_use-spot.result _ _ _ c.add.ensures c.is_in_order.ensures
    (ap (reserved_in c.args.path.now) c.with_use-spot.ensures ∙ use_place c.args.path.now _ c.args.last c.args.new ∙ ap (told_at reserved_in c.args.path.now) c.get.ensures)
    (ap (λ (kept : Marks). kept.reserved) c.self.view_is)
