use Rattle.std.proofs.Common.{◌∙◌, ap, subst}
use Rattle.write_plan.specs.declared.act.Supply.{Supply}
use Rattle.job_run.specs.Begun.{BeginsFrom}
use Rattle.job_run.specs.Orders.{supply_cost}
use Rattle.job_run.specs.Stages.{making_cost}
use Rattle.job_run.specs.declared.states.Doing.TheVariants as doing
use Rattle.job_run.specs.declared.states.Filling.TheVariants as filling
use Rattle.job_run.specs.declared.states.Source.TheVariants as source
use Rattle.job_run.proofs.Gets.{again_less, again_stands, filled_goes}
use Rattle.job_run.proofs.Proceeding.{begins_again}
use Rattle.job_run.proofs.lending.again.Goals as goal

pub returns-clause-goes : goal.returns-clause-goes
returns-clause-goes g c = λ rel reading stands.
    filled_goes g.R.Region c.filled.result c.args.region c.args.order c.args.filing c.begin-how.result
    (making_cost c.args.order (doing.File c.args.filing (filling.Due (source.Loan rel) reading))) c.filled.ensures.region c.filled.ensures.order c.filled.ensures.doing
    (again_stands (g.R.Region.place c.args.region) (g.R.Region.part c.args.region) c.args.order c.args.filing rel reading c.begin-how.result stands
    (subst (λ (s : Supply). BeginsFrom s c.begin-how.result) c.own_supply.ensures c.begin-how.ensures.begins))
    (again_less c.args.order c.args.filing rel reading c.begin-how.result
    (c.begin-how.ensures.cost c.args.filing.digest.size ∙ ap (supply_cost c.args.filing.digest.size) c.own_supply.ensures))

pub returns-clause-course : goal.returns-clause-course
returns-clause-course g c = λ rel reading.
    begins_again g.R.Region c.args.order c.args.filing rel reading _ c.begin-how.result c.filled.result c.filled.ensures.order c.filled.ensures.doing c.own_supply.ensures
    c.begin-how.ensures.begins
