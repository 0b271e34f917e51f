use Rattle.std.proofs.Common.{sym}
use Rattle.mat_core.proofs.OpeningLemmas.{none_aged, put_aged, put_where}
use Rattle.mat_core.proofs.opening.age.Goals as goal

pub returns-in-Some-clause-marks : goal.returns-in-Some-clause-marks
returns-in-Some-clause-marks c =
    put_where c.put.result _ _ _ _ c.put.ensures.marks
    (put_aged c.args.path.now c.in-Some.last c.in-Some.field-0-1 c.args.book.now.marks c.requires (sym c.in-Some.ensures))

pub returns-in-None-clause-marks : goal.returns-in-None-clause-marks
returns-in-None-clause-marks c = none_aged c.args.path.now c.args.book.now.marks (sym c.in-None.ensures)
