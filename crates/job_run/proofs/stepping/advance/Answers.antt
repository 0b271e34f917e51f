use Rattle.std.proofs.Common.{refl, sym, ap, ◌∙◌}
use Rattle.job_run.specs.States.{region_of}
use Rattle.job_run.specs.Steps.{state_spot}
use Rattle.job_run.proofs.Puts.{called_from}
use Rattle.job_run.specs.CourseStages.{clearing_course, emptying_course, making_course, state_course}
use Rattle.job_run.specs.Courses.{wipe_course}
use Rattle.job_run.proofs.Proceeding.{makes_from}
use Rattle.job_run.proofs.stepping.advance.Goals as goal

pub returns-in-Wiping-clause-on_part : goal.returns-in-Wiping-clause-on_part
returns-in-Wiping-clause-on_part g c = λ spot.
    (called_from (region_of c.args.state) c.in-Wiping.region c.wipe.result (ap region_of c.in-Wiping.is) c.wipe.ensures.call, refl, refl)

pub returns-in-Emptying-clause-on_part : goal.returns-in-Emptying-clause-on_part
returns-in-Emptying-clause-on_part g c = λ spot.
    (called_from (region_of c.args.state) c.in-Emptying.region c.empty.result (ap region_of c.in-Emptying.is) c.empty.ensures.call, refl, refl)

pub returns-in-Clearing-clause-on_part : goal.returns-in-Clearing-clause-on_part
returns-in-Clearing-clause-on_part g c = λ spot.
    (called_from (region_of c.args.state) c.in-Clearing.region c.clear.result (ap region_of c.in-Clearing.is) c.clear.ensures.call, refl, refl)

pub returns-in-Making-clause-on_part : goal.returns-in-Making-clause-on_part
returns-in-Making-clause-on_part g c = λ spot.
    let all = c.make.ensures.on_part (ap state_spot (sym c.in-Making.is) ∙ spot) in
    (called_from (region_of c.args.state) c.in-Making.making.region c.make.result (ap region_of c.in-Making.is) all.0, all.1, all.2)

pub returns-in-Clearing-clause-from : goal.returns-in-Clearing-clause-from
returns-in-Clearing-clause-from g c = λ from. c.clear.ensures.from (g.F.Fetcher.holds c.args.fetcher.now)

pub returns-in-Wiping-clause-makes : goal.returns-in-Wiping-clause-makes
returns-in-Wiping-clause-makes g c = λ spot.
    makes_from (region_of c.args.state) c.in-Wiping.region (state_course c.args.state) wipe_course c.wipe.result (ap region_of c.in-Wiping.is) (ap state_course c.in-Wiping.is)
    c.wipe.ensures.makes

pub returns-in-Emptying-clause-makes : goal.returns-in-Emptying-clause-makes
returns-in-Emptying-clause-makes g c = λ spot.
    makes_from (region_of c.args.state) c.in-Emptying.region (state_course c.args.state) emptying_course c.empty.result (ap region_of c.in-Emptying.is) (ap state_course c.in-Emptying.is)
    c.empty.ensures.makes

pub returns-in-Clearing-clause-makes : goal.returns-in-Clearing-clause-makes
returns-in-Clearing-clause-makes g c = λ spot.
    makes_from (region_of c.args.state) c.in-Clearing.region (state_course c.args.state) (clearing_course c.in-Clearing.order) c.clear.result (ap region_of c.in-Clearing.is) (ap state_course c.in-Clearing.is)
    c.clear.ensures.makes

pub returns-in-Making-clause-makes : goal.returns-in-Making-clause-makes
returns-in-Making-clause-makes g c = λ spot.
    let m = c.in-Making.making in
    makes_from (region_of c.args.state) m.region (state_course c.args.state) (making_course m.order m.doing) c.make.result (ap region_of c.in-Making.is) (ap state_course c.in-Making.is)
    (c.make.ensures.makes (ap state_spot (sym c.in-Making.is) ∙ spot))
