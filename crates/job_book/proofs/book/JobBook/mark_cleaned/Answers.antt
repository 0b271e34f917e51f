use Rattle.std.proofs.Common.{rules}
use Rattle.job_book.proofs.ReadLemmas.{jobs_marked, unmarked, whole_marked}
use Rattle.job_book.proofs.book.JobBook.mark_cleaned.Goals as goal

pub invariant_of-self : goal.invariant_of-self
invariant_of-self c =
    whole_marked c.args.path.now c.args.stamp c.self.inside.list.items c.mark_all.new.list.items c.self.inside.loans c.self.invariant c.mark_all.ensures

pub returns-then-is_reading-clause-jobs : goal.returns-then-is_reading-clause-jobs
returns-then-is_reading-clause-jobs c = jobs_marked c.args.path.now c.args.stamp c.args.self.now c.mark_all.new.list.items (search rules)

pub returns-else-is_reading-clause-list : goal.returns-else-is_reading-clause-list
returns-else-is_reading-clause-list c = unmarked c.args.path.now c.args.stamp c.args.self.now (search rules)
