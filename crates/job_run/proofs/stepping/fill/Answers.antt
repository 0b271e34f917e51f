use Rattle.std.proofs.Common.{subst, sym}
use Rattle.job_run.specs.Steps.{FetchingFrom, filling_fetching}
use Rattle.job_run.specs.declared.states.Filling.{Filling}
use Rattle.job_run.specs.CourseStages.{MakesPart, making_course}
use Rattle.job_run.specs.declared.states.Doing.TheVariants as doing
use Rattle.job_run.proofs.stepping.fill.Goals as goal

pub returns-in-Held-clause-from : goal.returns-in-Held-clause-from
returns-in-Held-clause-from g c = λ from. c.put_held.ensures.from (g.F.Fetcher.holds c.args.fetcher.now)

pub returns-in-Got-clause-from : goal.returns-in-Got-clause-from
returns-in-Got-clause-from g c = λ from.
    let blobs = g.F.Fetcher.holds c.args.fetcher.now in
    c.put_got.ensures.from blobs (subst (λ (h : Filling). FetchingFrom blobs (filling_fetching c.args.filing.digest h)) c.in-Got.is from)

pub returns-in-Some-clause-from : goal.returns-in-Some-clause-from
returns-in-Some-clause-from g c = λ from. c.read.ensures.from (g.F.Fetcher.holds c.args.fetcher.now)

pub returns-in-Held-clause-makes : goal.returns-in-Held-clause-makes
returns-in-Held-clause-makes g c = λ spot.
    subst (λ (h : Filling). MakesPart c.args.region (making_course c.args.order (doing.File c.args.filing h)) c.put_held.result) (sym c.in-Held.is) c.put_held.ensures.makes

pub returns-in-Got-clause-makes : goal.returns-in-Got-clause-makes
returns-in-Got-clause-makes g c = λ spot.
    subst (λ (h : Filling). MakesPart c.args.region (making_course c.args.order (doing.File c.args.filing h)) c.put_got.result) (sym c.in-Got.is) c.put_got.ensures.makes
