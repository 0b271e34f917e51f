use Rattle.std.proofs.Common.{◌≡◌, drop}
use Rattle.job_book.specs.Jobs.{jobs_of}
use Rattle.mat_core.specs.Removing.{marked_from}
use Rattle.mat_core.proofs.removing.mark_from.Given as goal

-- what is left to mark makes the rest
abbrev pub invariant-loop-stock : goal.invariant-loop-stock
invariant-loop-stock l = record {
  list : marked_from (drop l.stock-index l.stocks) l.jobs ≡ marked_from l.stocks l.fn.jobs;
  jobs : jobs_of l.jobs ≡ jobs_of l.fn.jobs;
}
