use Rattle.std.proofs.Common.{◌≡◌, subst, ◌∙◌}
use Rattle.std.specs.Option.{is_some}
use Rattle.job_run.specs.Done.{task_path}
use Rattle.job_run.specs.Jobs.{goal_tree}
use Rattle.job_run.specs.Views.{Seen, job_next}
use Rattle.job_run.proofs.Sealed.{next_so}
use Rattle.job_run.proofs.job.Job.next.Goals as goal

pub returns : goal.returns
returns g c =
    let m = c.self.inside.machine in
    subst (λ (v : Seen g.row.R.Denot). c.next.result ≡ job_next v) c.self.view_is
    (c.next.ensures ∙ next_so (task_path m.card.task) (goal_tree m.goal.value) (is_some m.loan) m.state c.self.invariant.stands)
