use Rattle.std.proofs.Common.{◌∙◌, ap}
use Rattle.std.specs.List.{find}
use Rattle.std.specs.Option.{option_map}
use Rattle.kept_book.specs.Marks.{Marks, is_mark_at, use_of}
use Rattle.kept_book.proofs.MarkLemmas.{mark_found}
use Rattle.kept_book.proofs.book.KeptBook.get.Goals as goal

pub returns : goal.returns
returns c =
    c.use_at.ensures ∙ mark_found c.args.path.now c.self.inside.spots c.is_in_order.ensures
    ∙ ap (λ (kept : Marks). option_map use_of (find (is_mark_at c.args.path.now) kept.marks)) c.self.view_is
