use Rattle.std.proofs.Common.{◌∙◌, ap, refl, true}
use Rattle.std.specs.declared.option.Option.TheVariants.{Some}
use Rattle.kept_book.specs.declared.spot.Spot.TheVariants as spot
use Rattle.kept_book.specs.Marks.{Marks, is_reserved}
use Rattle.kept_book.proofs.MarkLemmas.{place_there}
use Rattle.kept_book.proofs.KeptLemmas.{marks_added, places_taken}
use Rattle.kept_book.proofs.book.KeptBook.settle.Goals as goal

pub set-requires : goal.set-requires
set-requires c =
    place_there c.args.path.now c.self.inside.spots (ap (λ (kept : Marks). is_reserved kept.reserved c.args.path.now) c.self.view_is ∙ c.requires)

pub returns-clause-marks : goal.returns-clause-marks
returns-clause-marks c =
    marks_added true c.args.path.now (spot.Kept c.args.last c.args.new) c.args.last c.args.new _ _ _ c.set.ensures refl
    (ap (λ (kept : Marks). kept.marks) c.self.view_is)

pub returns-clause-reserved : goal.returns-clause-reserved
returns-clause-reserved c =
    places_taken c.args.path.now (Some (spot.Kept c.args.last c.args.new)) _ _ _ c.set.ensures c.is_in_order.ensures refl
    (ap (λ (kept : Marks). kept.reserved) c.self.view_is)
