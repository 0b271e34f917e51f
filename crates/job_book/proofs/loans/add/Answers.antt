use Rattle.std.proofs.Common.{rules}
use Rattle.job_book.proofs.EntryLemmas.{added}
use Rattle.job_book.proofs.loans.add.Goals as goal

pub returns : goal.returns
returns c = added c.is_ok.result c.args.path.now c.args.number c.args.loans.now c.insert.new.self (search rules) c.requires
