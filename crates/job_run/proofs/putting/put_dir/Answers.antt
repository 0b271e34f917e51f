use Rattle.std.proofs.Common.{ℕ, List, subst, arith}
use Rattle.job_run.specs.Stages.{making_cost}
use Rattle.job_run.specs.States.{Continues}
use Rattle.job_run.specs.declared.states.Doing.TheVariants as doing
use Rattle.job_run.proofs.Puts.{dir_put}
use Rattle.std.proofs.Common.{refl, sym, ◌∙◌}
use Rattle.job_run.specs.CourseStages.{making_course, state_course}
use Rattle.job_run.specs.Courses.{to_put}
use Rattle.job_run.specs.Growing.{dir_node}
use Rattle.job_run.specs.Steps.{state_spot}
use Rattle.job_run.proofs.Proceeding.{finishes}
use Rattle.job_run.proofs.putting.put_dir.Goals as goal

pub after_node-requires-clause-behind : goal.after_node-requires-clause-behind
after_node-requires-clause-behind g c = λ none.
    dir_put (g.R.Region.place c.args.region) (g.R.Region.place c.put_dir-failure.new.region) (g.R.Region.part c.args.region) (g.R.Region.part c.put_dir-failure.new.region)
    c.args.order c.args.rel c.put_dir-failure.result c.put_dir-failure.ensures.place c.requires c.put_dir-failure.ensures.part none

pub returns-clause-goes : goal.returns-clause-goes
returns-clause-goes g c =
    subst (λ (p : List (List ℕ)). Continues p c.args.order.tree c.args.order.lent (making_cost c.args.order (doing.Dir c.args.rel)) c.after_node.result)
    c.put_dir-failure.ensures.place (c.after_node.ensures.goes (making_cost c.args.order (doing.Dir c.args.rel)) (omega arith))

pub returns-clause-course : goal.returns-clause-course
returns-clause-course g c = λ none.
    finishes c.args.order (state_spot c.after_node.result) (making_course c.args.order (doing.Dir c.args.rel)) (state_course c.after_node.result) (to_put (dir_node c.args.rel)) refl refl refl
    refl (c.after_node.ensures.begun (sym c.after_node.ensures.failure ∙ none))
