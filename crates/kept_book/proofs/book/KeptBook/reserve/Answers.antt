use Rattle.std.proofs.Common.{◌∙◌, ap, is_ok}
use Rattle.kept_book.specs.Marks.{Marks}
use Rattle.kept_book.specs.Spots.{mark_in, reserved_in, told_at}
use Rattle.kept_book.proofs.KeptLemmas.{place_told, place_use, places_added, same_put}
use Rattle.kept_book.proofs.book.KeptBook.reserve.Goals as goal

pub returns-clause-marks : goal.returns-clause-marks
returns-clause-marks c =
    same_put mark_in (is_ok c.add.result) c.args.path.now c.with_place-spot.result _ _ _ c.add.ensures c.is_in_order.ensures
    (ap (mark_in c.args.path.now) c.with_place-spot.ensures ∙ place_use c.args.path.now _ ∙ ap (told_at mark_in c.args.path.now) c.get.ensures)
    (ap (λ (kept : Marks). kept.marks) c.self.view_is)

pub returns-clause-reserved : goal.returns-clause-reserved
returns-clause-reserved c =
    places_added (is_ok c.add.result) c.args.path.now c.with_place-spot.result _ _ _ c.add.ensures
    (ap (reserved_in c.args.path.now) c.with_place-spot.ensures ∙ place_told c.args.path.now _)
    (ap (λ (kept : Marks). kept.reserved) c.self.view_is)
