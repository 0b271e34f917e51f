use Rattle.std.proofs.Common.{◌≡◌, None}
use Rattle.region_port.specs.declared.port.Region.{Ghosts}
use Rattle.job_run.specs.Moves.{Causes, Moves, around}
use Rattle.job_run.specs.Steps.{Told, told_now}
use Rattle.job_run.specs.Views.{Seen, calls_left}
use Rattle.job_run.proofs.job.work_off.Given as goal

-- what was done so far, and why the job failed, if it has
pub record Going {R : Type 0} (g : Ghosts R) (start : Seen R) (told : Told) (job : Seen R) (now : Told) : Type 0 where
  pub moves : Moves g start told job now
  pub causes : start.failure ≡ None → Causes g (around start told) (around job now) job.failure

abbrev pub invariant-steps : goal.invariant-steps
invariant-steps g l =
    let f = g.F.Fetcher in
    Going g.R.Region l.fn.job (told_now (f.holds l.fn.fetcher) (f.fault_count l.fn.fetcher) (f.fetches l.fn.fetcher) (f.watch l.fn.fetcher)) l.job
    (told_now (f.holds l.fetcher) (f.fault_count l.fetcher) (f.fetches l.fetcher) (f.watch l.fetcher))

abbrev pub decreases-steps : goal.decreases-steps
decreases-steps g l = calls_left l.job
