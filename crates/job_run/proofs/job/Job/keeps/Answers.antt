use Rattle.std.proofs.Common.{◌≡◌, None, false, subst}
use Rattle.std.specs.Option.{is_some}
use Rattle.job_run.specs.Done.{task_path}
use Rattle.job_run.specs.Jobs.{goal_tree}
use Rattle.job_run.specs.Steps.{IsAt}
use Rattle.job_run.specs.Views.{Seen}
use Rattle.job_run.specs.Along.{IsAlong}
use Rattle.job_run.proofs.Proceeding.{job_along}
use Rattle.job_run.proofs.Sealed.{no_failure, stands_at}
use Rattle.job_run.proofs.job.Job.keeps.Goals as goal

pub returns-clause-place : goal.returns-clause-place
returns-clause-place g c =
    let m = c.self.inside.machine in
    subst (λ (v : Seen g.row.R.Denot). IsAt g.R.Region (task_path v.card.task) v.region) c.self.view_is
    (stands_at (task_path m.card.task) (goal_tree m.goal.value) (is_some m.loan) m.state c.self.invariant.stands)

pub returns-clause-going : goal.returns-clause-going
returns-clause-going g c =
    subst (λ (v : Seen g.row.R.Denot). v.over ≡ false → v.failure ≡ None) c.self.view_is (no_failure c.self.inside.machine.state)

pub returns-clause-along : goal.returns-clause-along
returns-clause-along g c = subst (λ (v : Seen g.row.R.Denot). IsAlong v) c.self.view_is (job_along c.self.inside.machine)
