use Rattle.job_run.proofs.lending.read.Goals as goal

pub returns-in-Absent-clause-goes : goal.returns-in-Absent-clause-goes
returns-in-Absent-clause-goes g c = c.again.ensures.goes c.args.rel c.args.reading c.requires

pub returns-in-Absent-clause-course : goal.returns-in-Absent-clause-course
returns-in-Absent-clause-course g c = c.again.ensures.course c.args.rel c.args.reading
