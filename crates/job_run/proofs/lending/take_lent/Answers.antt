use Rattle.job_run.specs.Orders.{own_supply}
use Rattle.job_run.specs.declared.states.Doing.{Doing}
use Rattle.job_run.specs.declared.states.Order.{Order}
use Rattle.std.proofs.Common.{ℕ, List, Some, None, subst, arith, ◌+◌, ◌≤◌, sym}
use Rattle.job_run.specs.Readings.{Takes}
use Rattle.job_run.specs.Stages.{making_cost, acts_asks, making_asks, own_asks}
use Rattle.job_run.specs.declared.reading.Taken.TheVariants as taken
use Rattle.job_run.specs.declared.states.Doing.TheVariants as doing
use Rattle.job_run.specs.declared.states.Filling.TheVariants as filling
use Rattle.job_run.specs.declared.states.Source.TheVariants as source
use Rattle.job_run.proofs.Gets.{filled_goes, gets_last, gets_more}
use Rattle.job_run.proofs.Proceeding.{reads_on}
use Rattle.job_run.proofs.lending.take_lent.Goals as goal

pub returns-in-More-clause-goes : goal.returns-in-More-clause-goes
returns-in-More-clause-goes g c =
    filled_goes g.R.Region c.filled.result c.args.region c.args.order c.args.filing (filling.Got (source.Loan c.args.rel) c.args.reading.at c.args.piece (Some c.in-More.reading))
    (making_cost c.args.order (doing.File c.args.filing (filling.Due (source.Loan c.args.rel) c.args.reading))) c.filled.ensures.region c.filled.ensures.order c.filled.ensures.doing
    (gets_more (g.R.Region.place c.args.region) (g.R.Region.part c.args.region) c.args.order c.args.filing (source.Loan c.args.rel) c.args.reading c.in-More.reading c.args.piece c.requires.stands
    (λ given has. subst (λ (l : List ℕ). Takes c.args.filing.digest given l (taken.More c.in-More.reading)) c.as_slice.ensures.value (c.in-More.ensures.takes given has)))
    (omega arith)

pub returns-in-Last-clause-goes : goal.returns-in-Last-clause-goes
returns-in-Last-clause-goes g c =
    filled_goes g.R.Region c.filled-in-Last.result c.args.region c.args.order c.args.filing (filling.Got (source.Loan c.args.rel) c.args.reading.at c.args.piece None)
    (making_cost c.args.order (doing.File c.args.filing (filling.Due (source.Loan c.args.rel) c.args.reading))) c.filled-in-Last.ensures.region c.filled-in-Last.ensures.order c.filled-in-Last.ensures.doing
    (gets_last (g.R.Region.place c.args.region) (g.R.Region.part c.args.region) c.args.order c.args.filing (source.Loan c.args.rel) c.args.reading c.args.piece c.requires.stands
    (λ given has. subst (λ (l : List ℕ). Takes c.args.filing.digest given l taken.Last) c.as_slice.ensures.value (c.in-Last.ensures.takes given has)))
    (omega arith)

pub returns-in-Wrong-clause-goes : goal.returns-in-Wrong-clause-goes
returns-in-Wrong-clause-goes g c = c.again.ensures.goes c.args.rel c.args.reading c.requires.stands

pub returns-in-Last-clause-asks : goal.returns-in-Last-clause-asks
returns-in-Last-clause-asks g c =
    let most = own_asks (own_supply c.args.order.method) + acts_asks c.args.order.method c.args.order.left.items in
    subst (λ (d : Doing). making_asks c.filled-in-Last.result.order d ≤ most) (sym c.filled-in-Last.ensures.doing)
    (subst (λ (o : Order). 0 + acts_asks o.method o.left.items ≤ most) (sym c.filled-in-Last.ensures.order) (omega arith))

pub returns-in-More-clause-course : goal.returns-in-More-clause-course
returns-in-More-clause-course g c =
    reads_on g.R.Region c.args.order c.args.filing (source.Loan c.args.rel) c.args.reading c.args.piece (Some c.in-More.reading) c.filled.result c.filled.ensures.order
    c.filled.ensures.doing

pub returns-in-Last-clause-course : goal.returns-in-Last-clause-course
returns-in-Last-clause-course g c =
    reads_on g.R.Region c.args.order c.args.filing (source.Loan c.args.rel) c.args.reading c.args.piece None c.filled-in-Last.result c.filled-in-Last.ensures.order
    c.filled-in-Last.ensures.doing

pub returns-in-Wrong-clause-course : goal.returns-in-Wrong-clause-course
returns-in-Wrong-clause-course g c = c.again.ensures.course c.args.rel c.args.reading
