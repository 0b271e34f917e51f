use Rattle.std.proofs.Common.{ℕ, List, ◌+◌, subst, arith}
use Rattle.job_run.specs.Orders.{acts_cost}
use Rattle.job_run.specs.States.{Continues}
use Rattle.std.proofs.Common.{refl, sym, ◌∙◌}
use Rattle.job_run.specs.CourseStages.{clearing_course, state_course}
use Rattle.job_run.specs.Courses.{to_wipe}
use Rattle.job_run.specs.Steps.{state_spot}
use Rattle.job_run.proofs.Proceeding.{finishes}
use Rattle.job_run.proofs.ending.clear.Goals as goal

pub returns-clause-goes : goal.returns-clause-goes
returns-clause-goes g c =
    subst (λ (p : List (List ℕ)). Continues p c.args.order.tree c.args.order.lent (acts_cost c.args.order.left.items + 1) c.after_node.result)
    c.wipe-failure.ensures.place (c.after_node.ensures.goes (acts_cost c.args.order.left.items + 1) (omega arith))

pub returns-clause-course : goal.returns-clause-course
returns-clause-course g c = λ none.
    finishes c.args.order (state_spot c.after_node.result) (clearing_course c.args.order) (state_course c.after_node.result) to_wipe refl refl refl
    refl (c.after_node.ensures.begun (sym c.after_node.ensures.failure ∙ none))
