use Rattle.std.proofs.Common.{◌≡◌, ◌+◌, sym, subst}
use Rattle.write_plan.specs.declared.method.Method.{Method}
use Rattle.job_run.specs.Stages.{acts_asks, doing_asks}
use Rattle.job_run.proofs.Beginnings.{goes_on}
use Rattle.job_run.proofs.Proceeding.{begun_so}
use Rattle.job_run.proofs.going.go_on.Goals as goal

pub returns-clause-stands : goal.returns-clause-stands
returns-clause-stands g c =
    let same = c.next-doing.ensures.same in
    goes_on (g.R.Region.place c.args.region) (g.R.Region.part c.args.region) c.args.order c.next-doing.new.order c.next-doing.result same.0 same.1 c.requires
    c.next-doing.ensures.begins

pub returns-clause-asks : goal.returns-clause-asks
returns-clause-asks g c =
    let o = c.args.order in
    let next = c.next-doing.new.order in
    subst (λ (m : Method). doing_asks m c.next-doing.result + acts_asks m next.left.items ≡ acts_asks o.method o.left.items) (sym c.next-doing.ensures.same.1)
    (c.next-doing.ensures.asks o.method)

pub returns-clause-begun : goal.returns-clause-begun
returns-clause-begun g c =
    let same = c.next-doing.ensures.same in
    begun_so c.args.order c.next-doing.new.order c.requires.nodes c.next-doing.result same.1 same.2 (c.next-doing.ensures.begins c.requires.nodes c.requires.left)
    c.next-doing.ensures.duties
