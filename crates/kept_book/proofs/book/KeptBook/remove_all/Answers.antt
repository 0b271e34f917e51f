use Rattle.std.proofs.Common.{◌∙◌, refl}
use Rattle.kept_book.proofs.ListLemmas.{next_taken, none_taken}
use Rattle.kept_book.proofs.book.KeptBook.remove_all.Goals as goal

pub loop-path-init : goal.loop-path-init
loop-path-init c = (none_taken c.args.self.now.marks, refl)

pub loop-path-preserved : goal.loop-path-preserved
loop-path-preserved c = (
  next_taken c.args.paths.now c.loop-path.path-index c.path-item.result _ c.loop-path.self.marks _ c.loop-path-test.true c.path-item.is
      c.loop-path.invariant.0 c.remove.ensures.marks,
  c.remove.ensures.reserved ∙ c.loop-path.invariant.1,
)
