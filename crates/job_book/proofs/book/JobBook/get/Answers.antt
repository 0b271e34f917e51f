use Rattle.std.proofs.Common.{rules}
use Rattle.std.specs.Option.{option_copied}
use Rattle.job_book.proofs.ReadLemmas.{job_found}
use Rattle.job_book.proofs.book.JobBook.get.Goals as goal

pub returns-clause-job : goal.returns-clause-job
returns-clause-job c = job_found c.args.number c.args.self.now (option_copied c.job_at.result) (search rules)
