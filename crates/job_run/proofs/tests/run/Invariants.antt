use Rattle.std.proofs.Common.{◌≡◌}
use Rattle.job_run.specs.Views.{job_card}
use Rattle.job_run.proofs.tests.run.Given as goal

-- it stays a job of its card
abbrev pub invariant-loop-at : goal.invariant-loop-at
invariant-loop-at l = job_card l.job ≡ job_card l.initial.job
