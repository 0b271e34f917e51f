use Rattle.std.proofs.Common.{sym, ap, subst, ◌∙◌}
use Rattle.job_run.specs.Steps.{doing_spot}
use Rattle.job_run.specs.CourseStages.{MakesPart, making_course}
use Rattle.job_run.specs.declared.states.Doing.{Doing}
use Rattle.job_run.proofs.stepping.make.Goals as goal

pub returns-in-File-clause-on_part : goal.returns-in-File-clause-on_part
returns-in-File-clause-on_part g c = λ spot. c.fill.ensures.on_part (ap doing_spot (sym c.in-File.is) ∙ spot)

pub returns-in-Dir-clause-from : goal.returns-in-Dir-clause-from
returns-in-Dir-clause-from g c = λ from. c.put_dir.ensures.from (g.F.Fetcher.holds c.args.fetcher.now)

pub returns-in-Link-clause-from : goal.returns-in-Link-clause-from
returns-in-Link-clause-from g c = λ from. c.put_link.ensures.from (g.F.Fetcher.holds c.args.fetcher.now)

pub returns-in-Sync-clause-from : goal.returns-in-Sync-clause-from
returns-in-Sync-clause-from g c = λ from. c.settle.ensures.from (g.F.Fetcher.holds c.args.fetcher.now)

pub returns-in-File-clause-makes : goal.returns-in-File-clause-makes
returns-in-File-clause-makes g c = λ spot.
    let m = c.args.making in
    subst (λ (d : Doing). MakesPart m.region (making_course m.order d) c.fill.result) (sym c.in-File.is) (c.fill.ensures.makes (ap doing_spot (sym c.in-File.is) ∙ spot))
