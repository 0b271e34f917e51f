use Rattle.std.proofs.Common.{rules, ap, ◌∙◌}
use Rattle.job_book.specs.Jobs.{jobs_of}
use Rattle.mat_core.specs.Cleans.{condemned_at}
use Rattle.mat_core.proofs.CleanLemmas.{strays_condemned, strays_last, strays_on}
use Rattle.mat_core.proofs.cleaning.condemn_strays.Goals as goal

pub loop-path-preserved : goal.loop-path-preserved
loop-path-preserved c = record {
  list = strays_on c.args.strays.now c.loop-path.path-index c.path-item.result _ c.loop-path.debris.list c.condemn.new.self.list _ c.loop-path-test.true c.path-item.is
      c.condemn.ensures.list c.loop-path.invariant.list;
  spare = c.condemn.ensures.spare ∙ c.loop-path.invariant.spare;
}

pub returns-clause-list : goal.returns-clause-list
returns-clause-list c =
    strays_last c.args.strays.now c.loop-path.path-index c.loop-path.debris.list _ (search rules) c.loop-path.invariant.list
    ∙ ap (λ ps. condemned_at ps c.args.debris.now.list) c.requires
    ∙ strays_condemned (jobs_of c.args.jobs.now) c.args.debris.now.list c.is_in_order.ensures
