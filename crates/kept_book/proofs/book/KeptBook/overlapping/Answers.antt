use Rattle.std.proofs.Common.{◌∙◌, ap}
use Rattle.kept_book.specs.Marks.{Marks}
use Rattle.kept_book.proofs.OverLemmas.{over_is}
use Rattle.kept_book.proofs.book.KeptBook.overlapping.Goals as goal

pub returns : goal.returns
returns c = record {
  ok =
      c.keep_marked.ensures
      ∙ over_is c.args.path.now c.self.inside.spots c.in_ok-paths.paths.items c.args.self.now.marks c.is_in_order.ensures c.in_ok-paths.ensures.ok
      (ap (λ (kept : Marks). kept.marks) c.self.view_is);
}
