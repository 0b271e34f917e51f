use Rattle.job_run.specs.Pieces.{asked_for}
use Rattle.job_run.specs.Steps.{FetchingFrom, doing_fetching}
use Rattle.job_run.specs.declared.states.Doing.{Doing}
use Rattle.job_run.proofs.Given.{gets_from}
use Rattle.std.proofs.Common.{ℕ, List, Some, None, sym, subst, arith}
use Rattle.job_run.specs.Readings.{Takes}
use Rattle.job_run.specs.Stages.{making_cost}
use Rattle.job_run.specs.declared.reading.Taken.TheVariants as taken
use Rattle.job_run.specs.declared.states.Doing.TheVariants as doing
use Rattle.job_run.specs.declared.states.Filling.TheVariants as filling
use Rattle.job_run.specs.declared.states.Source.TheVariants as source
use Rattle.mat_model.specs.declared.entries.Outcome.TheVariants as outcome
use Rattle.job_run.proofs.Gets.{file_among, filled_goes, found_other, gets_last, gets_more, stopped_goes}
use Rattle.job_run.proofs.Proceeding.{reads_on}
use Rattle.job_run.proofs.getting.take_fetched.Goals as goal

pub returns-in-More-clause-goes : goal.returns-in-More-clause-goes
returns-in-More-clause-goes g c =
    filled_goes g.R.Region c.filled.result c.args.region c.args.order c.args.filing (filling.Got source.Store c.args.reading.at c.args.piece (Some c.in-More.reading))
    (making_cost c.args.order (doing.File c.args.filing (filling.Due source.Store c.args.reading))) c.filled.ensures.region c.filled.ensures.order c.filled.ensures.doing
    (gets_more (g.R.Region.place c.args.region) (g.R.Region.part c.args.region) c.args.order c.args.filing source.Store c.args.reading c.in-More.reading c.args.piece c.requires.stands
    (λ given has. subst (λ (l : List ℕ). Takes c.args.filing.digest given l (taken.More c.in-More.reading)) c.as_slice.ensures.value (c.in-More.ensures.takes given has)))
    (omega arith)

pub returns-in-Last-clause-goes : goal.returns-in-Last-clause-goes
returns-in-Last-clause-goes g c =
    filled_goes g.R.Region c.filled-in-Last.result c.args.region c.args.order c.args.filing (filling.Got source.Store c.args.reading.at c.args.piece None)
    (making_cost c.args.order (doing.File c.args.filing (filling.Due source.Store c.args.reading))) c.filled-in-Last.ensures.region c.filled-in-Last.ensures.order c.filled-in-Last.ensures.doing
    (gets_last (g.R.Region.place c.args.region) (g.R.Region.part c.args.region) c.args.order c.args.filing source.Store c.args.reading c.args.piece c.requires.stands
    (λ given has. subst (λ (l : List ℕ). Takes c.args.filing.digest given l taken.Last) c.as_slice.ensures.value (c.in-Last.ensures.takes given has)))
    (omega arith)

pub returns-in-Wrong-clause-goes : goal.returns-in-Wrong-clause-goes
returns-in-Wrong-clause-goes g c =
    let due = c.requires.stands.at.1 in
    stopped_goes c.args.region (outcome.Corrupt c.args.filing.digest c.in-Wrong.found) c.stop.result c.args.order.tree c.args.order.lent
    (making_cost c.args.order (doing.File c.args.filing (filling.Due source.Store c.args.reading))) c.stop.ensures.stopped (
      file_among (g.R.Region.place c.args.region) (g.R.Region.part c.args.region) c.args.order c.args.filing source.Store c.args.reading c.requires.stands,
      found_other c.args.filing.digest due.given c.args.piece.items c.args.reading.at c.in-Wrong.found due.has.at due.within c.requires.short
          (subst (λ (l : List ℕ). Takes c.args.filing.digest due.given l (taken.Wrong c.in-Wrong.found)) c.as_slice.ensures.value (c.in-Wrong.ensures.takes due.given due.has)),
    ) (λ left. tt)

pub returns-in-More-clause-from : goal.returns-in-More-clause-from
returns-in-More-clause-from g c = λ blobs gives from.
    subst (λ (d : Doing). FetchingFrom blobs (doing_fetching d)) (sym c.filled.ensures.doing)
    (gets_from blobs c.args.filing.digest c.args.reading c.in-More.reading c.args.piece.items (asked_for c.args.filing.digest.size c.args.reading.at)
    (λ given has. subst (λ (l : List ℕ). Takes c.args.filing.digest given l (taken.More c.in-More.reading)) c.as_slice.ensures.value (c.in-More.ensures.takes given has))
    gives from)

pub returns-in-More-clause-course : goal.returns-in-More-clause-course
returns-in-More-clause-course g c =
    reads_on g.R.Region c.args.order c.args.filing source.Store c.args.reading c.args.piece (Some c.in-More.reading) c.filled.result c.filled.ensures.order
    c.filled.ensures.doing

pub returns-in-Last-clause-course : goal.returns-in-Last-clause-course
returns-in-Last-clause-course g c =
    reads_on g.R.Region c.args.order c.args.filing source.Store c.args.reading c.args.piece None c.filled-in-Last.result c.filled-in-Last.ensures.order
    c.filled-in-Last.ensures.doing
