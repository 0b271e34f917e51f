use Rattle.std.proofs.Common.{◌∙◌, ap, List}
use Rattle.mat_model.specs.WorkState.{is_lent}
use Rattle.job_book.specs.declared.running.Running.{Running}
use Rattle.job_book.specs.Jobs.{jobs_of}
use Rattle.job_book.proofs.LoanLemmas.{lent_by_index}
use Rattle.job_book.proofs.book.JobBook.is_lent.Goals as goal

pub returns : goal.returns
returns c =
    c.overlaps.ensures ∙ lent_by_index c.args.path.now c.self.inside.list.items c.self.inside.loans c.self.invariant
    ∙ ap (λ (rs : List Running). is_lent c.args.path.now (jobs_of rs)) c.self.view_is
