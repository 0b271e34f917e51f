use Rattle.std.proofs.Common.{◌≡◌, List, Result, Ok, Err, IfOk, true, sym, subst}
use Rattle.std.specs.declared.vec.Vec.{Vec}
use Rattle.std.specs.declared.alloc.Global.{Global}
use Rattle.mat_tree.specs.declared.flat.Flat.{Flat}
use Rattle.mat_tree.specs.Parts.{HasTree, Part}
use Rattle.mat_tree.specs.Trees.{ascends}
use Rattle.write_plan.specs.declared.act.Act.{Act}
use Rattle.write_plan.specs.declared.method.Method.{Method}
use Rattle.write_plan.specs.Carried.{AreRightAt, BytesAt, carry_at}
use Rattle.write_plan.specs.Plans.{plan_of}
use Rattle.write_plan.proofs.Carrying.{plan_holds}
use Rattle.write_plan.proofs.acts.plan.Goals as goal

-- acts that are a plan have its tree once they are carried out
holds_where : {E : Type 0} (r : Result (Vec Act Global) E) (nodes : List Flat) (way : Method) (lent : _) → IfOk r (λ acts. acts.items ≡ plan_of nodes way lent) →
    ascends nodes ≡ true → IfOk r (λ acts. (bytes : BytesAt) (part : Part) → AreRightAt bytes nodes → HasTree (carry_at bytes acts.items part) nodes)
holds_where (Ok acts) nodes way lent is up = λ bytes part right.
    subst (λ (list : List Act). HasTree (carry_at bytes list part) nodes) (sym is) (plan_holds nodes way lent bytes part up right)
holds_where (Err e) nodes way lent is up = tt

pub returns-clause-holds : goal.returns-clause-holds
returns-clause-holds c = holds_where c.acts_of.result c.args.tree.now c.args.method.now c.args.lent c.acts_of.ensures.ok c.acts_of.ensures.tree.order
