use Rattle.std.proofs.Common.{◌∙◌, ap, sym}
use Rattle.std.specs.Option.{is_some}
use Rattle.path_trie.specs.Entries.{value_at}
use Rattle.kept_book.specs.Marks.{Marks}
use Rattle.kept_book.specs.Spots.{mark_in, reserved_in, told_at, without_place}
use Rattle.kept_book.proofs.KeptLemmas.{no_place_told, no_place_use, place_stood, places_taken, same_left}
use Rattle.kept_book.proofs.book.KeptBook.release.Goals as goal

pub leave-requires : goal.leave-requires
leave-requires c h =
    place_stood (value_at c.args.path.now c.self.inside.spots) (ap (λ o. is_some (without_place o)) (sym c.get.ensures) ∙ ap is_some (sym c.without_place-spot.ensures) ∙ h)

pub returns-clause-marks : goal.returns-clause-marks
returns-clause-marks c =
    same_left mark_in c.args.path.now c.without_place-spot.result _ _ _ c.leave.ensures c.is_in_order.ensures
    (ap (told_at mark_in c.args.path.now) c.without_place-spot.ensures ∙ no_place_use c.args.path.now _ ∙ ap (told_at mark_in c.args.path.now) c.get.ensures)
    (ap (λ (kept : Marks). kept.marks) c.self.view_is)

pub returns-clause-reserved : goal.returns-clause-reserved
returns-clause-reserved c =
    places_taken c.args.path.now c.without_place-spot.result _ _ _ c.leave.ensures c.is_in_order.ensures
    (ap (told_at reserved_in c.args.path.now) c.without_place-spot.ensures ∙ no_place_told c.args.path.now _)
    (ap (λ (kept : Marks). kept.reserved) c.self.view_is)
