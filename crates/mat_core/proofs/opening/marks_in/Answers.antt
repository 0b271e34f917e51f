use Rattle.std.proofs.Common.{◌∙◌, ap, ap₂, map, List, ℕ}
use Rattle.mat_tree.specs.Trees.{ascends_by}
use Rattle.kept_book.specs.declared.mark.Mark.{Mark}
use Rattle.kept_book.specs.Marks.{path_of_mark}
use Rattle.mat_core.specs.Opened.{aged_by, new_mark}
use Rattle.mat_core.proofs.OpeningLemmas.{marks_ascend, opening_marks}
use Rattle.mat_core.proofs.opening.marks_in.Goals as goal

pub age_all-requires : goal.age_all-requires
age_all-requires c =
    ap (ascends_by path_of_mark) (c.in_ok-book.ensures.marks ∙ ap (map new_mark) c.as_slice.ensures) ∙ marks_ascend c.args.opening.now.rows c.requires

pub returns-clause-marks : goal.returns-clause-marks
returns-clause-marks c =
    c.in_ok-age_all.ensures.marks
    ∙ ap₂ (λ (ps : List (List (List ℕ))) (ms : List Mark). map (aged_by ps) ms) c.as_slice-2.ensures
    (c.in_ok-book.ensures.marks ∙ ap (map new_mark) c.as_slice.ensures)
    ∙ opening_marks c.args.opening.now c.args.opening.now.rows
