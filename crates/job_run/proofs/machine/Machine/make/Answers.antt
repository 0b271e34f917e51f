use Rattle.std.proofs.Common.{◌≡◌, List, ◌∙◌, ap}
use Rattle.mat_tree.specs.declared.flat.Flat.{Flat}
use Rattle.write_plan.specs.declared.method.Method.{Method}
use Rattle.job_run.specs.Asking.{asks_of}
use Rattle.job_run.proofs.Asked.{begun_asks}
use Rattle.job_run.proofs.Proceeding.{clearing_so}
use Rattle.job_run.proofs.machine.Machine.make.Goals as goal

pub returns-clause-asks : goal.returns-clause-asks
returns-clause-asks g c =
    let order = c.begin-order.result in
    let tree = c.begin-order.ensures.tree in
    let whole = c.in-Tree.is in
    let same : order.tree ≡ c.args.tree = cc in
    begun_asks order.tree order.method order.lent order.left.items c.begin-order.ensures.left ∙
    ap (λ (m : Method). asks_of m order.tree) c.begin-order.ensures.way ∙ ap (λ (t : List Flat). asks_of c.args.method t) same

pub returns-clause-course : goal.returns-clause-course
returns-clause-course g c =
    let order = c.begin-order.result in
    let tree = c.begin-order.ensures.tree in
    let whole = c.in-Tree.is in
    let same : order.tree ≡ c.args.tree = cc in
    clearing_so order c.args.tree c.args.method _ same c.begin-order.ensures.way (c.begin-order.ensures.lent ∙ c.is_some-lent.ensures) c.begin-order.ensures.left
