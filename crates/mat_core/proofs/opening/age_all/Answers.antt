use Rattle.std.proofs.Common.{◌∙◌, ap, refl, take}
use Rattle.mat_tree.specs.Trees.{ascends_by}
use Rattle.kept_book.specs.Marks.{path_of_mark}
use Rattle.mat_core.proofs.OpeningLemmas.{aged_ascends, more_aged, none_old}
use Rattle.mat_core.proofs.opening.age_all.Goals as goal

pub loop-path-init : goal.loop-path-init
loop-path-init c = (none_old c.args.book.now.marks, refl)

pub age-requires : goal.age-requires
age-requires c =
    ap (ascends_by path_of_mark) c.loop-path.invariant.0
    ∙ aged_ascends (take c.loop-path.path-index c.args.paths.now) c.args.book.now.marks ∙ c.requires

pub loop-path-preserved : goal.loop-path-preserved
loop-path-preserved c = (
  more_aged c.args.paths.now c.loop-path.path-index c.path-item.result c.args.book.now.marks c.loop-path.book.marks _ c.loop-path-test.true
      c.path-item.is c.loop-path.invariant.0 c.in_ok-age.ensures.marks,
  c.age.ensures.reserved ∙ c.loop-path.invariant.1,
)
