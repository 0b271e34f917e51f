use Rattle.std.proofs.Common.{rules}
use Rattle.job_book.proofs.LoanLemmas.{ended}
use Rattle.job_book.proofs.NumberLemmas.{jobs_left, left_is, none_left, taken_is}
use Rattle.job_book.proofs.book.JobBook.take.Goals as goal

pub invariant_of-self : goal.invariant_of-self
invariant_of-self c =
    ended c.args.number c.args.self.now c.remove-running.new.self.items c.in-Some.place c.remove-running.result c.self.inside.loans c.remove_loans.new.loans (search rules)
    (search rules) (search rules) (search rules) c.remove_loans.ensures

pub returns-in-Some-clause-running : goal.returns-in-Some-clause-running
returns-in-Some-clause-running c =
    taken_is c.args.number c.args.self.now c.in-Some.place c.remove-running.result (search rules) (search rules)

pub returns-in-Some-clause-list : goal.returns-in-Some-clause-list
returns-in-Some-clause-list c =
    left_is c.args.number c.args.self.now c.remove-running.new.self.items c.in-Some.place c.remove-running.result (search rules) (search rules) (search rules)

pub returns-in-Some-clause-jobs : goal.returns-in-Some-clause-jobs
returns-in-Some-clause-jobs c =
    jobs_left c.args.number c.args.self.now c.remove-running.new.self.items
    (left_is c.args.number c.args.self.now c.remove-running.new.self.items c.in-Some.place c.remove-running.result (search rules) (search rules) (search rules))

pub returns-in-None-clause-list : goal.returns-in-None-clause-list
returns-in-None-clause-list c = none_left c.args.number c.args.self.now (search rules)

pub returns-in-None-clause-jobs : goal.returns-in-None-clause-jobs
returns-in-None-clause-jobs c = jobs_left c.args.number c.args.self.now c.args.self.now (none_left c.args.number c.args.self.now (search rules))
