use Rattle.std.proofs.Common.{rules}
use Rattle.job_book.proofs.NumberLemmas.{later_is}
use Rattle.job_book.proofs.book.JobBook.is_later.Goals as goal

pub returns-in-Some : goal.returns-in-Some
returns-in-Some c = later_is c.args.number c.args.self.now c.in-Some.running.now (search rules) (search rules)
