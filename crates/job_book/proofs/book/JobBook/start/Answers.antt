use Rattle.std.proofs.Common.{rules, List, sym, subst}
use Rattle.job_book.specs.declared.running.Running.{Running}
use Rattle.job_book.specs.Numbers.{task_path}
use Rattle.job_book.specs.Loans.{IsWhole}
use Rattle.job_book.proofs.LoanLemmas.{begun, free_at, source_free}
use Rattle.job_book.proofs.book.JobBook.start.Goals as goal

pub add_loans-requires-clause-task : goal.add_loans-requires-clause-task
add_loans-requires-clause-task c = free_at (task_path c.args.running) c.args.self.now c.self.inside.loans (search rules) c.requires.free

pub add_loans-requires-clause-source : goal.add_loans-requires-clause-source
add_loans-requires-clause-source c = source_free c.args.running.lent c.args.self.now c.self.inside.loans (search rules) c.requires.source

pub invariant_of-self-2 : goal.invariant_of-self-2
invariant_of-self-2 c =
    subst (λ (l : List Running). IsWhole l c.add_loans.new.loans) (sym (search rules))
    (begun c.args.self.now c.args.running c.self.inside.loans c.add_loans.new.loans (search rules) c.requires.later c.requires.free c.requires.source c.requires.apart
    c.if-not-add_loans.ensures)
