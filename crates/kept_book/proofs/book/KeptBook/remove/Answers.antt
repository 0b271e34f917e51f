use Rattle.std.proofs.Common.{rules, ◌∙◌, ap, sym}
use Rattle.std.specs.Option.{is_some}
use Rattle.std.specs.List.{find}
use Rattle.path_trie.specs.Entries.{value_at}
use Rattle.kept_book.specs.Marks.{Marks, is_mark_at}
use Rattle.kept_book.specs.Spots.{mark_in, reserved_in, told_at, without_use}
use Rattle.kept_book.proofs.MarkLemmas.{mark_there}
use Rattle.kept_book.proofs.KeptLemmas.{marks_taken, no_use_place, no_use_told, same_left, use_stood}
use Rattle.kept_book.proofs.book.KeptBook.remove.Goals as goal

pub leave-requires : goal.leave-requires
leave-requires c h =
    use_stood (value_at c.args.path.now c.self.inside.spots) (ap (λ o. is_some (without_use o)) (sym c.get.ensures) ∙ ap is_some (sym c.without_use-spot.ensures) ∙ h)

pub returns-clause-marks : goal.returns-clause-marks
returns-clause-marks c =
    marks_taken c.args.path.now c.without_use-spot.result _ _ _ c.leave.ensures c.is_in_order.ensures
    (ap (told_at mark_in c.args.path.now) c.without_use-spot.ensures ∙ no_use_told c.args.path.now _)
    (ap (λ (kept : Marks). kept.marks) c.self.view_is)

pub returns-clause-reserved : goal.returns-clause-reserved
returns-clause-reserved c =
    same_left reserved_in c.args.path.now c.without_use-spot.result _ _ _ c.leave.ensures c.is_in_order.ensures
    (ap (told_at reserved_in c.args.path.now) c.without_use-spot.ensures ∙ no_use_place c.args.path.now _ ∙ ap (told_at reserved_in c.args.path.now) c.get.ensures)
    (ap (λ (kept : Marks). kept.reserved) c.self.view_is)

pub returns-clause-was : goal.returns-clause-was
returns-clause-was c =
    let was = mark_there c.args.path.now c.self.inside.spots c.is_in_order.ensures in
    let seen = ap (λ (kept : Marks). is_some (find (is_mark_at c.args.path.now) kept.marks)) c.self.view_is in
    let found = ap is_some c.use_at.ensures in search (rules, was, seen, found)
